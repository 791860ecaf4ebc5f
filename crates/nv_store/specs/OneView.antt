-- What contracts see of a single cell.
use Rattle.std.specs.Prelude.{ℕ, Bool, Option}
use Rattle.nv_model.specs.declared.nv.Nv.{Ghosts}
use Rattle.nv_store.specs.Slot.{Held}
use Rattle.nv_store.specs.Store.{one_held}
use Rattle.nv_store.specs.declared.one.Cell.{Cell}

-- its storage
abbrev pub storage_of : {N : Type 0} {L : ℕ} {g : Ghosts N} → Cell N L g → N
storage_of cell = cell.nv

-- the number of its commits and its payload, or nothing
abbrev pub held_by : {N : Type 0} {L : ℕ} {g : Ghosts N} → Cell N L g → Option Held
held_by cell = one_held cell.head.count cell.payload

-- whether a commit of this value answered Power or Fault
abbrev pub has_failed : {N : Type 0} {L : ℕ} {g : Ghosts N} → Cell N L g → Bool
has_failed cell = cell.failed
