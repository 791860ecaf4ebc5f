use Rattle.std.proofs.Common.{◌≡◌, map}
use Rattle.std.specs.Map.Iter.{deref_pair}
use Rattle.trace_seen.specs.Marks.{missing_among}
use Rattle.trace_seen.proofs.marks.SeenMarks.missing.Given as goal

abbrev pub invariant-loop-mark : goal.invariant-loop-mark
invariant-loop-mark l = l.list.items ≡ missing_among (map deref_pair l.yielded)
