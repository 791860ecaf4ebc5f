use Rattle.nv_store.specs.Slot.{slots_at, IsClear}
use Rattle.nv_bytes.proofs.cell.is_clear.Given as goal

abbrev pub invariant-loop-place : goal.invariant-loop-place
invariant-loop-place l = IsClear l.place (slots_at l.size 0 l.cell)
