use Rattle.std.proofs.Common.{◌≡◌, ℕ, ◌<◌, length, None}
use Rattle.nv_store.specs.Tables.{table_held}
use Rattle.nv_store.proofs.rooms.clear_room.Given as goal

abbrev pub invariant-loop-cell : goal.invariant-loop-cell
invariant-loop-cell g l = record {
  blank : (k : ℕ) → k < l.cell → table_held l.room.heads.items l.room.payloads.items k ≡ None;
  long : length l.room.heads.items ≡ length l.initial.room.heads.items;
}
