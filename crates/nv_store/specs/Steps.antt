-- What a write and a sync of one slot leave.
use Rattle.std.specs.Prelude.{◌≡◌, ◌⊎◌, ℕ, ◌+◌, List, length, Option, Some, None, Result, OnOk}
use Rattle.nv_model.specs.Bytes.{SameOutside, laid}
use Rattle.nv_model.specs.Moments.{Times, Only, Elapses}
use Rattle.nv_store.specs.Slot.{Held, slot_at}

-- a write of these bytes, and a sync: each image since the call began is the content of its beginning
-- with this range changed, and once it is done the content has the bytes there
pub record Puts {E : Type 0} (at : ℕ) (bytes old new : List ℕ) (before now : Times) (result : Result (Unit {0}) E) : Type 0 where
  pub torn : (c : List ℕ) → now.since before.moment c → SameOutside at (length bytes) old c
  pub done : OnOk result (new ≡ laid old at bytes)
  pub time : Elapses before now

-- the content with only this slot changed, to one that meets P
pub record Slotted (size at : ℕ) (P : Option Held → Type 0) (old new : List ℕ) : Type 0 where
  pub others : SameOutside at (5 + size) old new
  pub slot : P (slot_at size at new)

-- steps of a commit on the slot at a place: of the slot P holds at every moment since they began, and Q once they are done
pub record Steps {E : Type 0} (size at : ℕ) (P Q : Option Held → Type 0) (old new : List ℕ) (before now : Times) (result : Result (Unit {0}) E) : Type 0 where
  pub any_moment : (c : List ℕ) → now.since before.moment c → Slotted size at P old c
  pub done : OnOk result (Slotted size at Q old new)
  pub durable : OnOk result (Only now new)
  pub time : Elapses before now

-- closed
abbrev pub IsShut : Option Held → Type 0
IsShut slot = slot ≡ None

-- as before, or closed
abbrev pub IsOrShut : Option Held → Option Held → Type 0
IsOrShut before slot = (slot ≡ before) ⊎ (slot ≡ None)

-- as before, closed, or with the new count and payload
abbrev pub IsOrHolds : Option Held → Held → Option Held → Type 0
IsOrHolds before held slot = (slot ≡ before) ⊎ (slot ≡ None) ⊎ (slot ≡ Some held)
