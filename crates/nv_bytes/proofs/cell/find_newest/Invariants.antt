use Rattle.nv_store.specs.Slot.{slots_at}
use Rattle.nv_bytes.specs.Newest.{IsNewest}
use Rattle.nv_bytes.proofs.cell.find_newest.Given as goal

abbrev pub invariant-loop-place : goal.invariant-loop-place
invariant-loop-place l = IsNewest l.place (slots_at l.size 0 l.cell) l.found
