-- The newest slot of a cell, by what its slots show.
use Rattle.std.specs.Prelude.{◌≡◌, ℕ, ◌<◌, Option, Some, None}
use Rattle.nv_store.specs.Slot.{Held, current, IsClear}
use Rattle.nv_store.specs.Scans.{open_count}
use Rattle.nv_bytes.specs.declared.cell.Newest.{Newest}

-- it is the one with the greatest count of those whose marker is set, and there is none if no marker is set
abbrev pub IsNewest : ℕ → (ℕ → Option Held) → Option Newest → Type 0
IsNewest n slots None = current n slots ≡ None
IsNewest n slots (Some s) = (s.place < n) × (current n slots ≡ slots s.place) × (open_count (slots s.place) ≡ Some s.count)

-- one of the first n slots has this count
abbrev pub IsRepeated : ℕ → (ℕ → Option Held) → ℕ → Type 0
IsRepeated n slots count = (j : ℕ) × (j < n) × (open_count (slots j) ≡ Some count)

-- the cell is clear, and shows nothing
pub record ShowsNone (n : ℕ) (slots : ℕ → Option Held) : Type 0 where
  pub clear : IsClear n slots
  pub shown : current n slots ≡ None

-- the cell is clear, and shows this count and payload
pub record ShowsHeld (n : ℕ) (slots : ℕ → Option Held) (held : Held) : Type 0 where
  pub clear : IsClear n slots
  pub shown : current n slots ≡ Some held
