use Rattle.std.proofs.Common.{◌≡◌, length}
use Rattle.nv_store.proofs.room.Room.new.Given as goal

abbrev pub invariant-loop-made : goal.invariant-loop-made
invariant-loop-made g l = (length l.heads.items ≡ l._made) × (length l.payloads.items ≡ l._made)
