use Rattle.std.proofs.Common.{drop}
use Rattle.trace_runs.specs.Places.{Has}
use Rattle.trace_runs.proofs.places.has.Given as goal

abbrev pub invariant-loop-at : goal.invariant-loop-at
invariant-loop-at l = record { left : Has l.fn.all l.fn.place → Has (drop l.at l.fn.all) l.fn.place }
