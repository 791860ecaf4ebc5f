use Rattle.trace_bench.specs.Seeing.{IsReady, audit_of}
use Rattle.meter_audit.proofs.seen.read_seen.Given as goal

abbrev pub invariant-loop-number : goal.invariant-loop-number
invariant-loop-number l = IsReady (audit_of l.auditor)
