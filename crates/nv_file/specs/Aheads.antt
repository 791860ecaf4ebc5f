-- A part of a file that was read at once, and where a read had its bytes from.
use Rattle.std.specs.Prelude.{◌≡◌, ◌⊎◌, ℕ, ◌+◌, ◌-◌, ◌≤◌, Bool, true, false, List, length, take, drop, Option, Some, None}
use Rattle.nv_file.specs.Ranges.{Range}
use Rattle.nv_file.specs.declared.ahead.Ahead.{Ahead}

-- the places that were read
abbrev pub window_of : Ahead → Option Range
window_of a = a.window

-- whether the last read asked the system
abbrev pub has_asked : Ahead → Bool
has_asked a = a.asked

-- where it answers, the bytes from that place on are copied, as many as there is room for, and all of them were read; otherwise nothing is
abbrev pub Has : Ahead → ℕ → List ℕ → List ℕ → Bool → Type 0
Has a at old new true = (w : Range) × (a.window ≡ Some w) × (w.0 ≤ at) × (at + length old ≤ w.1) × (new ≡ take (length old) (drop (at - w.0) a.bytes.items))
Has a at old new false = new ≡ old

-- The source of the bytes of a read. If the system was not asked, they are those that were kept before. If it was, they are
-- those of what is kept now, or nothing is kept.
pub record Fetched (before now : Ahead) (at : ℕ) (old new : List ℕ) (went : Bool) : Type 0 where
  pub kept : now.asked ≡ false → (went ≡ true) × Has before at old new true
  pub asked : now.asked ≡ true → went ≡ true → (now.window ≡ None) ⊎ Has now at old new true
