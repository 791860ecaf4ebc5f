use Rattle.trace_bench.specs.Seeing.{IsReady, audit_of}
use Rattle.meter_audit.proofs.runs.judge_all.Given as goal

abbrev pub invariant-loop-place : goal.invariant-loop-place
invariant-loop-place l = record {
  ready : IsReady (audit_of l.auditor);
  ready_clerk : IsReady (audit_of l.clerk.auditor);
}
