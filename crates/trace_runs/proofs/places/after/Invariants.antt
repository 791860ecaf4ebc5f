use Rattle.trace_runs.proofs.Reaching.{Going}
use Rattle.trace_runs.proofs.places.after.Given as goal

abbrev pub invariant-loop-at : goal.invariant-loop-at
invariant-loop-at l = record { going : Going l.fn.imprint.given.taken l.fn.imprint.given.mark l.fn.prints l.fn.all l.found.items l.at }
