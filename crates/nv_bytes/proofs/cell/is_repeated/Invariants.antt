use Rattle.nv_store.specs.Slot.{slots_at}
use Rattle.nv_bytes.specs.Newest.{IsRepeated}
use Rattle.nv_bytes.proofs.cell.is_repeated.Given as goal

abbrev pub invariant-loop-earlier : goal.invariant-loop-earlier
invariant-loop-earlier l = IsRepeated l.earlier (slots_at l.size 0 l.cell) l.count → ⊥
