-- Why an image wasn't read.
use Rattle.std.specs.Prelude.{◌⊎◌, ℕ, ◌<◌, List, length, Option, Some, None}
use Rattle.bench_base.specs.Causes.{Rose}

-- fewer than so many bytes are left, or the source doesn't expose them
abbrev pub HasFewer : ℕ → Option (List ℕ) → Type 0
HasFewer n None = Unit {0}
HasFewer n (Some bytes) = length bytes < n

-- the source's count of faults rose, or it had fewer than so many bytes
abbrev pub IsUnread : ℕ → ℕ → ℕ → Option (List ℕ) → Type 0
IsUnread n before now left = Rose before now ⊎ HasFewer n left
