-- What contracts see of a device in its storage.
use Rattle.std.specs.Prelude.{◌≡◌, ℕ, Bool}
use Rattle.nv_model.specs.declared.nv.Nv.{Ghosts}
use Rattle.nv_ring.specs.declared.wear.Wear.{Wear}
use Rattle.psd_state.specs.Seen.{Seen}
use Rattle.psd_device.specs.declared.node.DeviceNode.{DeviceNode}

-- its storage
abbrev pub storage_in : {N : Type 0} {g : Ghosts N} → DeviceNode N g → N
storage_in k = k.nv

-- its commits and its record
abbrev pub seen_in : {N : Type 0} {g : Ghosts N} → DeviceNode N g → Seen
seen_in k = record { count = k.head.count; state = k.state }

abbrev pub number_in : {N : Type 0} {g : Ghosts N} → DeviceNode N g → ℕ
number_in k = k.device

abbrev pub is_on : {N : Type 0} {g : Ghosts N} → DeviceNode N g → Bool
is_on k = k.on

-- how often its commits since the boot filled each slot
abbrev pub wear_in : {N : Type 0} {g : Ghosts N} → DeviceNode N g → Wear
wear_in k = k.wear

-- the wear is counted from the same boot on
pub record SameWear (before now : Wear) : Type 0 where
  pub first : now.first ≡ before.first
  pub start : now.start ≡ before.start
