-- The rows of the verifier, one of each trusted device and one of each block in use.
use Rattle.std.specs.Prelude.{◌≡◌, ℕ, ◌+◌, ◌<◌, ◌≤◌, ◌^◌, List, length, get_or}
use Rattle.bench_base.specs.declared.sizes.TheConstants.{FIRST_BLOCK, BLOCK_PIECES, LAST_BLOCK}
use Rattle.bench_base.specs.Ranges.{IsKey}

pub data Row : Type 0 where
  -- a device and the key under which its marks are trusted
  TrustRow : ℕ → List ℕ → Row
  -- device and number of a block, and for each of its pieces the scan under which it was accepted, or 0
  BlockRow : ℕ → ℕ → List ℕ → Row

-- the row lies in cell k: device d in cell d - 1, and blocks from cell 8 on
abbrev pub IsIn : ℕ → Row → Type 0
IsIn k (TrustRow d key) = (d ≡ k + 1) × (k < FIRST_BLOCK)
IsIn k (BlockRow d b scans) = FIRST_BLOCK ≤ k

-- the conditions of a block's row alone
pub record IsSoundBlock (d b : ℕ) (scans : List ℕ) : Type 0 where
  pub device : d < 2 ^ 32
  pub number : b ≤ LAST_BLOCK
  pub long : length scans ≡ BLOCK_PIECES
  pub words : (j : ℕ) → get_or scans j 0 < 2 ^ 32
  -- a piece was accepted
  pub used : ((j : ℕ) → get_or scans j 0 ≡ 0) → ⊥

-- the conditions of one row alone
abbrev pub IsSoundRow : Row → Type 0
IsSoundRow (TrustRow d key) = (d < 2 ^ 32) × IsKey key
IsSoundRow (BlockRow d b scans) = IsSoundBlock d b scans
