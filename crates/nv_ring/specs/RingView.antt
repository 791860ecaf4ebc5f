-- What contracts see of a ring.
use Rattle.std.specs.Prelude.{ℕ, List, Bool, Option}
use Rattle.nv_model.specs.declared.nv.Nv.{Ghosts}
use Rattle.nv_store.specs.Slot.{Held}
use Rattle.nv_store.specs.Store.{one_held}
use Rattle.nv_ring.specs.declared.ring.Ring.{Ring}

-- its storage
abbrev pub storage_of : {N : Type 0} {L : ℕ} {g : Ghosts N} → Ring N L g → N
storage_of ring = ring.nv

-- the number of its commits and its payload, or nothing
abbrev pub held_by : {N : Type 0} {L : ℕ} {g : Ghosts N} → Ring N L g → Option Held
held_by ring = one_held ring.head.count ring.payload

-- whether a commit of this value answered Power or Fault
abbrev pub has_failed : {N : Type 0} {L : ℕ} {g : Ghosts N} → Ring N L g → Bool
has_failed ring = ring.failed

-- the number of commits at the mount
abbrev pub first_of : {N : Type 0} {L : ℕ} {g : Ghosts N} → Ring N L g → ℕ
first_of ring = ring.wear.first

-- the current slot at the mount, 15 where the ring was blank
abbrev pub start_of : {N : Type 0} {L : ℕ} {g : Ghosts N} → Ring N L g → ℕ
start_of ring = ring.wear.start

-- how many commits since the mount filled each slot
abbrev pub fills_in : {N : Type 0} {L : ℕ} {g : Ghosts N} → Ring N L g → List ℕ
fills_in ring = ring.wear.fills
