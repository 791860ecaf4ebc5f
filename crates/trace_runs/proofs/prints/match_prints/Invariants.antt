use Rattle.trace_runs.proofs.Matching.{Reached}
use Rattle.trace_runs.proofs.prints.match_prints.Given as goal

abbrev pub invariant-loop-place : goal.invariant-loop-place
invariant-loop-place l = record { reached : Reached l.fn.imprints l.fn.prints l.all.items l.place }
