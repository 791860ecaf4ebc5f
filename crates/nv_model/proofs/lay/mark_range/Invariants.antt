use Rattle.std.proofs.Common.{◌≡◌, ◌≤◌, length, get_or, false}
use Rattle.nv_model.specs.Moments.{Writes}
use Rattle.nv_model.proofs.lay.mark_range.Given as goal

abbrev pub invariant-loop-i : goal.invariant-loop-i
invariant-loop-i l = record {
  inside : l.i ≤ l.count;
  long : length l.marks.items ≡ length l.initial.marks.items;
  places : Writes l.at l.i (λ k. get_or l.initial.marks.items k false) (λ k. get_or l.marks.items k false);
}
