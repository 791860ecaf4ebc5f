use Rattle.std.proofs.Common.{◌≡◌, ℕ, ◌<◌, ◌≤◌, None}
use Rattle.nv_store.specs.RoomView.{kept_in}
use Rattle.verifier_node.proofs.boot.are_blank.Given as goal

abbrev pub invariant-loop-cell : goal.invariant-loop-cell
invariant-loop-cell l = (k : ℕ) → l.first ≤ k → k < l.cell → kept_in l.room k ≡ None
