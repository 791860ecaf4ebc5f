-- The rows of the verifier after a list of commits, the newest first, each in its cell.
use Rattle.std.specs.Prelude.{ℕ, ◌+◌, ◌-◌, ◌*◌, List, [], ◌∷◌, length, All, Option, Some, None, option_map, unwrap_or, nat_lt, ◌==◌, if◌then◌else◌}
use Rattle.bench_base.specs.declared.{sizes.TheConstants.VERIFIER_CELLS, sizes.TheConstants.FIRST_BLOCK, sizes.TheConstants.BLOCK_PIECES, ledger.Commit.Commit}
use Rattle.bench_base.specs.Cells.{OfTrust, OfBlock, commits_at}
use Rattle.bench_base.specs.Ranges.{InRange}
use Rattle.bench_base.specs.Scans.{trusted, accepted, blocks}
use Rattle.node_acts.specs.RowList.{listed}
use Rattle.verifier.specs.Order.{InOrder, IsRoomy}
use Rattle.verifier.specs.Rows.{Row, TrustRow, BlockRow}
use Rattle.verifier.specs.Seen.{Seen}

-- the block in a place of a list of blocks, the newest first; places are counted from the oldest
abbrev pub block_at : ℕ → List (ℕ × ℕ) → Option (ℕ × ℕ)
block_at i [] = None
block_at i (x ∷ xs) = if length xs == i then Some x else block_at i xs

-- the scan under which each piece of a block was first accepted, or 0
abbrev pub scans_after : ℕ → ℕ → List Commit → List ℕ
scans_after d b C = listed BLOCK_PIECES (λ j. unwrap_or (accepted d (b * BLOCK_PIECES + j) C) 0)

abbrev pub trust_after : ℕ → List Commit → Option (ℕ × Row)
trust_after d C = option_map (λ key. (commits_at (OfTrust d) C, TrustRow d key)) (trusted d C)

abbrev pub block_after : List Commit → ℕ × ℕ → ℕ × Row
block_after C x = (commits_at (OfBlock x.0 x.1) C, BlockRow x.0 x.1 (scans_after x.0 x.1 C))

-- what lies in a cell: the first eight are of devices 1 to 8, the others of the blocks in the order of their first acceptance
abbrev pub cell_after : ℕ → List Commit → Option (ℕ × Row)
cell_after k C = if nat_lt k FIRST_BLOCK then trust_after (k + 1) C else option_map (block_after C) (block_at (k - FIRST_BLOCK) (blocks C))

abbrev pub seen_after : List Commit → Seen
seen_after C = listed VERIFIER_CELLS (λ k. cell_after k C)

-- these commits have a record: those of the verifier come in order, there are cells for their blocks, and their numbers are in range
pub record IsRecorded (C : List Commit) : Type 0 where
  pub order : InOrder C
  pub roomy : IsRoomy C
  pub range : All InRange C
