-- What the newest slot of a cell shows, with its payload.
use Rattle.std.specs.Prelude.{ℕ, List, Option}
use Rattle.nv_store.specs.Slot.{Held, IsClear}
use Rattle.nv_bytes.specs.Newest.{ShowsNone, ShowsHeld}
use Rattle.trace_images.specs.declared.slots.Newest.{Newest}
use Rattle.trace_images.specs.declared.slots.Newest.TheVariants as newest

abbrev pub ShowsNewest : ℕ → (ℕ → Option Held) → List ℕ → Newest → Type 0
ShowsNewest n slots payload newest.Mixed = IsClear n slots → ⊥
ShowsNewest n slots payload newest.Blank = ShowsNone n slots
ShowsNewest n slots payload (newest.Commits count) = ShowsHeld n slots (count, payload)
