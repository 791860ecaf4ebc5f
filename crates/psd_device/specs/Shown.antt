-- What the storage of a device shows: one cell of sixteen slots, with a payload that reads as its record.
use Rattle.std.specs.Prelude.{◌≡◌, ℕ, ◌+◌, List, Option, Some, None}
use Rattle.bench_base.specs.declared.sizes.TheConstants.{RECORD_BYTES, SLOTS}
use Rattle.nv_model.specs.Moments.{Times, Only}
use Rattle.psd_state.specs.State as state
use Rattle.psd_state.specs.State.{State}
use Rattle.psd_state.specs.Seen.{Seen}
use Rattle.psd_state.specs.Payload.{ReadsAs, Ranges, bytes_of}
use Rattle.nv_store.specs.Fills.{Fill, fill}
use Rattle.nv_store.specs.Slot.{Held, slots_at, IsClear}
use Rattle.nv_store.specs.Store.{cell_shown}

-- what the cell of a device holds: nothing where it was never made, otherwise so many commits and a payload that reads as its record
abbrev pub IsHeld : ℕ → Option State → Option Held → Type 0
IsHeld count s None = s ≡ None
IsHeld count None (Some held) = ⊥
IsHeld count (Some s) (Some held) = (held.0 ≡ count) × ReadsAs held.1 s

-- an image that shows so many commits and this record
pub record IsShown (count : ℕ) (s : Option State) (image : List ℕ) : Type 0 where
  pub held : IsHeld count s (cell_shown RECORD_BYTES SLOTS image 0)
  pub clear : IsClear SLOTS (slots_at RECORD_BYTES 0 image)

abbrev pub ShowsSeen : Seen → List ℕ → Type 0
ShowsSeen s image = IsShown s.count s.state image

-- a commit of a record: to the one cell, in the spelling of version 2
abbrev pub fill_of : Seen → State → Fill
fill_of s next = fill RECORD_BYTES SLOTS 0 (s.count + 1, bytes_of next)

-- the content is the only image, and shows them
pub record OnlyShown (s : Seen) (now : Times) (content : List ℕ) : Type 0 where
  pub only : Only now content
  pub shows : ShowsSeen s content

-- the record can be kept: it meets its conditions and its numbers fit their fields
pub record IsStorable (s : State) : Type 0 where
  pub holds : state.Holds s
  pub ranges : Ranges s
