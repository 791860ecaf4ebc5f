use Rattle.trace_bench.specs.Seeing.{IsReady, audit_of}
use Rattle.audit_recount.proofs.recount.Recount.go_over_events.Given as goal

abbrev pub invariant-loop-count : goal.invariant-loop-count
invariant-loop-count l = IsReady (audit_of l.self.auditor)
