use Rattle.nv_store.specs.RoomView.{kept_in}
use Rattle.verifier_node.specs.Boots.{AreListed}
use Rattle.verifier_node.proofs.boot.end_of_blocks.Given as goal

abbrev pub invariant-loop-cell : goal.invariant-loop-cell
invariant-loop-cell l = AreListed (kept_in l.room) l.cell
