-- What contracts see of the memory for a table's cells.
use Rattle.std.specs.Prelude.{ℕ, Option, length}
use Rattle.nv_store.specs.Slot.{Held}
use Rattle.nv_store.specs.Tables.{table_held}
use Rattle.nv_store.specs.declared.room.Room.{Room}

-- the number of cells that it is for
abbrev pub cells_of : {L : ℕ} → Room L → ℕ
cells_of room = length room.heads.items

-- what is kept for each
abbrev pub kept_in : {L : ℕ} → Room L → ℕ → Option Held
kept_in room = table_held room.heads.items room.payloads.items
