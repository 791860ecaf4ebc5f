use Rattle.trace_bench.specs.Seeing.{IsReady, audit_of}
use Rattle.audit_recount.proofs.owing.put_due.Given as goal

abbrev pub invariant-loop-count : goal.invariant-loop-count
invariant-loop-count g l = IsReady (audit_of l.auditor)
