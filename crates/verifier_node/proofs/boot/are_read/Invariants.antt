use Rattle.std.proofs.Common.{ℕ, ◌<◌}
use Rattle.nv_store.specs.RoomView.{kept_in}
use Rattle.verifier_node.specs.Boots.{CellRead}
use Rattle.verifier_node.proofs.boot.are_read.Given as goal

abbrev pub invariant-loop-cell : goal.invariant-loop-cell
invariant-loop-cell l = (k : ℕ) → k < l.cell → CellRead (kept_in l.room) k
