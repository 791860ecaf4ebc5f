use Rattle.std.proofs.Common.{◌≤◌}
use Rattle.hex.specs.Hex.{encode_lower}
use Rattle.trace_runs.specs.Places.{IsLast}
use Rattle.trace_runs.proofs.parts.last_after.Given as goal

abbrev pub invariant-loop-place : goal.invariant-loop-place
invariant-loop-place l = record {
  from : l.fn.first ≤ l.place;
  later : l.fn.last ≤ l.found;
  is : IsLast (encode_lower l.fn.mark) l.fn.prints l.fn.first l.place l.fn.last l.found;
}
