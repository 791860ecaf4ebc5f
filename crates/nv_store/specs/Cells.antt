-- What the cells of a storage show.
use Rattle.std.specs.Prelude.{◌≡◌, ◌≢◌, ◌⊎◌, ℕ, ◌+◌, ◌*◌, ◌<◌, List, Bool, false, get_or, is_some, Option, Some, None, if◌then◌else◌, ◌==◌, ◌%◌}
use Rattle.nv_model.specs.Bytes.{SameOutside}
use Rattle.nv_store.specs.Slot.{Held, slots_at, current, IsClear}

-- what the cell that begins at a place shows: the count and the payload of its current slot
abbrev pub shown : ℕ → ℕ → ℕ → List ℕ → Option Held
shown size n at image = current n (slots_at size at image)

-- the current slot is the one at this place, and the others have smaller counts
pub record Top (n : ℕ) (slots : ℕ → Option Held) (place : ℕ) (held : Held) : Type 0 where
  pub inside : place < n
  pub here : slots place ≡ Some held
  pub below : (i : ℕ) (a : Held) → i < n → i ≢ place → slots i ≡ Some a → a.0 < held.0

-- what a running value knows of its cell: its count, 0 for a blank cell, the place of its current slot, which gates are open, and its payload
pub record Known (n : ℕ) (slots : ℕ → Option Held) (count place : ℕ) (gates : List Bool) (payload : List ℕ) : Type 0 where
  pub clear : IsClear n slots
  pub gates_are : (i : ℕ) → i < n → is_some (slots i) ≡ get_or gates i false
  pub blank : count ≡ 0 → (i : ℕ) → i < n → slots i ≡ None
  pub top : 0 < count → Top n slots place (count, payload)

-- an image that shows in the cell at a place what it showed before or the new count and payload, and is as before elsewhere
pub record Commits (size n at : ℕ) (before : Option Held) (held : Held) (old new : List ℕ) : Type 0 where
  pub others : SameOutside at (n * (5 + size)) old new
  pub clear : IsClear n (slots_at size at new)
  pub shows : (shown size n at new ≡ before) ⊎ (shown size n at new ≡ Some held)

-- the slot that the next commit fills
abbrev pub next_of : ℕ → ℕ → ℕ → ℕ
next_of count place n = if count == 0 then 0 else (place + 1) % n
