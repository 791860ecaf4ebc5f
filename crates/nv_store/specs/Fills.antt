-- The place that a commit writes to, and the bytes that it leaves there.
use Rattle.std.specs.Prelude.{◌≡◌, ◌⊎◌, ℕ, ◌+◌, ◌*◌, ◌%◌, ◌<◌, List, [], ◌∷◌, ◌++◌, Bool, true, Option, None, is_some, Result, OnOk, IsErrOf, is_ok, if◌then◌else◌}
use Rattle.std.specs.Int.{to_be_bytes, w32}
use Rattle.bench_base.specs.declared.{refusals.StoreFail.StoreFail, refusals.StoreFail.TheVariants.Worn, refusals.StoreFail.TheVariants.Failed}
use Rattle.nv_model.specs.declared.nv.Nv.{Ghosts}
use Rattle.nv_model.specs.Bytes.{SameOutside, laid}
use Rattle.nv_model.specs.Meters.{Meters, UsesExactly}
use Rattle.nv_model.specs.Moments.{Times}
use Rattle.nv_store.specs.Slot.{Held, slot_at, slots_at}
use Rattle.nv_store.specs.Cells.{Top}
use Rattle.nv_store.specs.Store.{StoreView, commit_calls, count_of}

-- the bytes of a filled slot: an open gate, its count, big-endian, and its payload
abbrev pub filled : Held → List ℕ
filled held = 165 ∷ (to_be_bytes w32 held.0 ++ held.1)

-- the image with the slot at a place closed: the gate is 0 where it was open
abbrev pub closed : ℕ → ℕ → List ℕ → List ℕ
closed size at old = if is_some (slot_at size at old) then laid old at (0 ∷ []) else old

-- An image of a commit that fills the slot at a place. Only its gate may differ; or the slot is closed, and the bytes after
-- its gate may be anything; or all is written, and the gate may be anything.
abbrev pub IsFilling : ℕ → ℕ → Held → List ℕ → List ℕ → Type 0
IsFilling size at held old image =
    SameOutside at 1 old image
    ⊎ (SameOutside (at + 1) (4 + size) (closed size at old) image
    ⊎ SameOutside at 1 (laid old at (filled held)) image)

-- steps that fill the slot at a place
pub record FillsSlot {E : Type 0} (size at : ℕ) (held : Held) (old new : List ℕ) (before now : Times) (result : Result (Unit {0}) E) : Type 0 where
  pub any_moment : (c : List ℕ) → now.since before.moment c → IsFilling size at held old c
  pub done : OnOk result (new ≡ laid old at (filled held))

-- the slot of a cell of n slots that the next commit fills: slot 0 where the cell is blank, otherwise the one after the current one
pub record IsNextSlot (n : ℕ) (slots : ℕ → Option Held) (place : ℕ) : Type 0 where
  pub inside : place < n
  pub first : ((i : ℕ) → i < n → slots i ≡ None) → place ≡ 0
  pub after : (current : ℕ) (held : Held) → Top n slots current held → place ≡ (current + 1) % n

-- what a commit writes, and to which cell: it begins at a place, and has so many slots, with payloads of so many bytes
pub record Fill : Type 0 where
  pub size : ℕ
  pub slots : ℕ
  pub at : ℕ
  pub held : Held

abbrev pub fill : ℕ → ℕ → ℕ → Held → Fill
fill size slots at held = record { size = size; slots = slots; at = at; held = held }

-- that of cell k of a table of cells of so many slots
abbrev pub cell_fill : ℕ → ℕ → ℕ → Held → Fill
cell_fill size slots k held = fill size slots (k * (slots * (5 + size))) held

-- what a storage exposes: its content, its moment with the images since each, and its counts
pub record Told : Type 1 where
  pub content : List ℕ
  pub times : Times
  pub meters : Meters

abbrev pub told : {N : Type 0} → Ghosts N → N → Told
told g nv = record { content = g.content nv; times = g.times nv; meters = g.meters nv }

-- What a commit left, once it began to write: it fills the next slot, and leaves the other bytes. It was made if it
-- answered Ok. Then the content has its bytes there, and it used six calls of an armed fuse, or four if the slot was
-- closed.
pub record Fills (w : Fill) (before now : Told) (made : Bool) : Type 0 where
  pub place : ℕ
  pub next : IsNextSlot w.slots (slots_at w.size w.at before.content) place
  pub any_moment : (c : List ℕ) → now.times.since before.times.moment c
      → IsFilling w.size (w.at + place * (5 + w.size)) w.held before.content c
  pub done : made ≡ true → now.content ≡ laid before.content (w.at + place * (5 + w.size)) (filled w.held)
  pub calls : made ≡ true → UsesExactly (commit_calls (is_some (slots_at w.size w.at before.content place))) before.meters.fuse now.meters.fuse

abbrev pub told_by : StoreView → Told
told_by s = record { content = s.content; times = s.times; meters = s.meters }

-- a commit to a cell of a store, which writes unless the cell is worn or the store had failed
abbrev pub FillsCell : Type 0 → ℕ → ℕ → ℕ → List ℕ → StoreView → StoreView → Result (Unit {0}) StoreFail → Type 0
FillsCell tells L slots cell payload before now result =
    tells → (IsErrOf result Worn ⊎ IsErrOf result Failed → ⊥)
    → Fills (cell_fill L slots cell (count_of (before.held cell) + 1, payload)) (told_by before) (told_by now) (is_ok result)
