-- A record of a device as its storage can show it, and the wear at a boot.
use Rattle.std.specs.Prelude.{◌≡◌, ◌↔◌, ℕ, ◌≤◌, List, Some, None, IfSome, replicate}
use Rattle.bench_base.specs.declared.sizes.TheConstants.{MOST_COMMITS, RECORD_BYTES, SLOTS}
use Rattle.nv_ring.specs.declared.wear.Wear.{Wear}
use Rattle.nv_store.specs.Slot.{Held, slots_at}
use Rattle.nv_store.specs.Cells.{Top}
use Rattle.psd_state.specs.Seen.{Seen}
use Rattle.nv_store.specs.Store.{cell_shown}
use Rattle.psd_device.specs.Boots.{IsOwn}

-- a record of device d that its storage can show: it has no commits if and only if it was never made
pub record IsSound (d : ℕ) (s : Seen) : Type 0 where
  pub few : s.count ≤ MOST_COMMITS
  pub blank : (s.count ≡ 0) ↔ (s.state ≡ None)
  pub own : IfSome s.state (IsOwn d)

-- no commit has filled a slot since the boot, which found so many commits
pub record IsNewWear (wear : Wear) (count : ℕ) : Type 0 where
  pub first : wear.first ≡ count
  pub fills : wear.fills ≡ replicate SLOTS 0
  pub blank : count ≡ 0 → wear.start ≡ 15

-- this slot is the current one, where there is one
abbrev pub IsCurrent : ℕ → List ℕ → Type 0
IsCurrent slot content = (held : Held) → cell_shown RECORD_BYTES SLOTS content 0 ≡ Some held → Top SLOTS (slots_at RECORD_BYTES 0 content) slot held
