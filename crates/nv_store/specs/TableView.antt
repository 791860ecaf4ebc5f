-- What contracts see of a table.
use Rattle.std.specs.Prelude.{ℕ, Bool, Option}
use Rattle.nv_model.specs.declared.nv.Nv.{Ghosts}
use Rattle.nv_store.specs.Slot.{Held}
use Rattle.nv_store.specs.RoomView.{cells_of, kept_in}
use Rattle.nv_store.specs.declared.table.Table.{Table}

-- its storage
abbrev pub storage_of : {N : Type 0} {L : ℕ} {g : Ghosts N} → Table N L g → N
storage_of table = table.nv

-- the number of its cells
abbrev pub cell_count : {N : Type 0} {L : ℕ} {g : Ghosts N} → Table N L g → ℕ
cell_count table = cells_of table.room

-- of each cell the number of its commits and its payload, or nothing
abbrev pub held_by : {N : Type 0} {L : ℕ} {g : Ghosts N} → Table N L g → ℕ → Option Held
held_by table = kept_in table.room

-- whether a commit of this value answered Power or Fault
abbrev pub has_failed : {N : Type 0} {L : ℕ} {g : Ghosts N} → Table N L g → Bool
has_failed table = table.failed
