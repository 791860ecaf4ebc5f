use Rattle.std.proofs.Common.{◌≤◌}
use Rattle.trace_runs.specs.declared.imprint.Printed.TheVariants.{Whole}
use Rattle.trace_runs.specs.Places.{Adds}
use Rattle.trace_runs.proofs.places.add_lines.Given as goal

abbrev pub invariant-loop-place : goal.invariant-loop-place
invariant-loop-place l = record {
  from : l.fn.places.first ≤ l.place;
  adds : Adds Whole l.fn.mark l.fn.prints l.fn.places.first l.place l.fn.found.items l.found.items;
}
