-- The rows of cells, and the blocks among them, as far as they were looked through.
use Rattle.std.specs.Prelude.{◌≡◌, ℕ, ◌<◌, ◌≤◌, length, Option, Some, None, IsSome, IfSome, unwrap_or}
use Rattle.bench_base.specs.declared.sizes.TheConstants.{VERIFIER_CELLS, FIRST_BLOCK}
use Rattle.node_acts.specs.RowList.{row_at, row_of}
use Rattle.verifier.specs.Rows.{Row}
use Rattle.verifier.specs.Seen.{Seen, row_in, block_in, key_at, IsRowAt}

-- there is a place for each cell, and each row is sound and in its own
pub record AreRows (s : Seen) : Type 0 where
  pub long : length s ≡ VERIFIER_CELLS
  pub each : (k : ℕ) → IfSome (row_in s k) (IsRowAt k)

-- device and number of a block; 0 and 0 if there is none
abbrev pub block_of : Option (ℕ × Row) → ℕ × ℕ
block_of seen = unwrap_or (block_in (row_of seen)) (0, 0)

-- those of the block in cell k
abbrev pub block_shown : Seen → ℕ → ℕ × ℕ
block_shown s k = block_of (row_at s k)

-- each cell of blocks before n has a block of a trusted device
pub record AreListed (s : Seen) (n : ℕ) : Type 0 where
  pub from : FIRST_BLOCK ≤ n
  pub blocks : (k : ℕ) → FIRST_BLOCK ≤ k → k < n → block_in (row_in s k) ≡ Some (block_shown s k)
  pub trusted : (k : ℕ) → FIRST_BLOCK ≤ k → k < n → IsSome (key_at s (block_shown s k).0)

-- the cells from n on are blank
abbrev pub AreBlank : Seen → ℕ → Type 0
AreBlank s n = (k : ℕ) → n ≤ k → row_at s k ≡ None

-- one of them is not
pub record HasGap (s : Seen) (n : ℕ) : Type 0 where
  pub cell : ℕ
  pub behind : n ≤ cell
  pub used : IsSome (row_at s cell)
