use Rattle.trace_bench.specs.Seeing.{IsReady, audit_of}
use Rattle.meter_audit.proofs.reaches.Search.judge_all.Given as goal

abbrev pub invariant-loop-place : goal.invariant-loop-place
invariant-loop-place l = IsReady (audit_of l.auditor)
