-- What a boot finds.
use Rattle.std.specs.Prelude.{◌≡◌, ◌≢◌, ◌⊎◌, ℕ, List, Option, Some, IfSome}
use Rattle.bench_base.specs.declared.sizes.TheConstants.{RECORD_BYTES, SLOTS, DEVICE_BYTES}
use Rattle.nv_model.specs.declared.nv.Nv.{Ghosts}
use Rattle.nv_model.specs.Moments.{Image, Only}
use Rattle.nv_store.specs.Slot.{Held, slots_at}
use Rattle.nv_store.specs.Scans.{IsMixed}
use Rattle.nv_store.specs.Store.{cell_shown}
use Rattle.psd_state.specs.State.{State}
use Rattle.psd_state.specs.Payload.{ReadsAs}
use Rattle.psd_device.specs.Shown.{IsShown, IsStorable}

-- a record of this device that can be kept
pub record IsOwn (device : ℕ) (s : State) : Type 0 where
  pub kept : IsStorable s
  pub number : s.device ≡ device

-- an image that shows some number of commits, and some record of this device if there is one
pub record ShowsOwn (device : ℕ) (image : List ℕ) : Type 0 where
  pub count : ℕ
  pub state : Option State
  pub own : IfSome state (IsOwn device)
  pub shows : IsShown count state image

-- the payload that an image shows reads as no record of this device
pub record IsForeign (device : ℕ) (image : List ℕ) : Type 0 where
  pub held : Held
  pub shown : cell_shown RECORD_BYTES SLOTS image 0 ≡ Some held
  pub reads_none : (s : State) → s.device ≡ device → ReadsAs held.1 s → ⊥

-- why a boot answers Damaged: the size is another, or what the storage is sure to hold is mixed or no record of this
-- device
abbrev pub IsDamaged : {N : Type 0} → Ghosts N → ℕ → N → Type 0
IsDamaged g device nv = (g.size nv ≢ DEVICE_BYTES)
    ⊎ (Only (g.times nv) (g.content nv) × (IsMixed SLOTS (slots_at RECORD_BYTES 0 (g.content nv)) ⊎ IsForeign device (g.content nv)))

-- each image shows a record of this device
abbrev pub AllShowOwn : {N : Type 0} → Ghosts N → ℕ → N → Type 0
AllShowOwn g device nv = (image : List ℕ) → Image (g.times nv) image → ShowsOwn device image
