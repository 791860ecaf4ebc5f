-- What is seen of the verifier: of each of its 1,032 cells nothing, or how many commits it has and its row. Cell d - 1 is device d, and
-- the blocks lie in cells 8, 9 and so on.
use Rattle.std.specs.Prelude.{◌≡◌, ℕ, ◌+◌, ◌-◌, ◌%◌, ◌≤◌, Bool, false, ◌&&◌, List, length, drop, get_or, set, Option, Some, None, IsSome, IfSome, is_some, ◌==◌, position, if◌then◌else◌}
use Rattle.std.specs.List.{prefix_len}
use Rattle.bench_base.specs.declared.sizes.TheConstants.{MOST_COMMITS, VERIFIER_CELLS, FIRST_BLOCK, BLOCK_PIECES}
use Rattle.bench_base.specs.Scans.{block_of}
use Rattle.node_acts.specs.Views.{Counting}
use Rattle.node_acts.specs.RowList.{RowList, row_at, row_of, commits_at, commits_in, is_worn, put}
use Rattle.verifier.specs.declared.{acts.Change.Change, acts.Spot.Spot}
use Rattle.verifier.specs.declared.acts.Change.TheVariants as change
use Rattle.verifier.specs.Payload.{no_scans}
use Rattle.verifier.specs.Rows.{Row, TrustRow, BlockRow, IsIn, IsSoundRow}

abbrev pub Seen : Type 0
Seen = RowList Row

-- == one cell ==

abbrev pub key_in : Option Row → Option (List ℕ)
key_in None = None
key_in (Some (TrustRow d key)) = Some key
key_in (Some (BlockRow d b scans)) = None

-- device and number of the block
abbrev pub block_in : Option Row → Option (ℕ × ℕ)
block_in None = None
block_in (Some (TrustRow d key)) = None
block_in (Some (BlockRow d b scans)) = Some (d, b)

-- the scan of each piece
abbrev pub scans_in : Option Row → List ℕ
scans_in None = no_scans
scans_in (Some (TrustRow d key)) = no_scans
scans_in (Some (BlockRow d b scans)) = scans

-- the row is that of this block
abbrev pub holds : ℕ → ℕ → Option Row → Bool
holds d b None = false
holds d b (Some (TrustRow e key)) = false
holds d b (Some (BlockRow e n scans)) = (e == d) && (n == b)

-- == what the rows show ==

-- the row of a cell
abbrev pub row_in : Seen → ℕ → Option Row
row_in s k = row_of (row_at s k)

-- the key under which marks of the device are trusted
abbrev pub key_at : Seen → ℕ → Option (List ℕ)
key_at s d = if d == 0 then None else key_in (row_in s (d - 1))

-- the cell of the block
abbrev pub cell_of_block : Seen → ℕ → ℕ → Option ℕ
cell_of_block s d b = position (λ x. holds d b (row_of x)) s

-- how many blocks are in use: they lie in cells 8, 9 and so on without gaps
abbrev pub used : Seen → ℕ
used s = prefix_len is_some (drop FIRST_BLOCK s)

-- 0 is no scan
abbrev pub scan_shown : ℕ → Option ℕ
scan_shown n = if n == 0 then None else Some n

-- where the piece is looked up: in the cell of its block, or in the next one, where no piece is accepted yet
abbrev pub spot_by : Seen → ℕ → Option ℕ → Spot
spot_by s piece None = record { cell = FIRST_BLOCK + used s; accepted = None }
spot_by s piece (Some cell) = record { cell = cell; accepted = scan_shown (get_or (scans_in (row_in s cell)) (piece % BLOCK_PIECES) 0) }

abbrev pub spot_in : Seen → ℕ → ℕ → Spot
spot_in s d piece = spot_by s piece (cell_of_block s d (block_of piece))

-- == when the rows are sound ==

-- the conditions that join cells
pub record AreTogether (s : Seen) : Type 0 where
  -- the device of a block is trusted
  pub trusted : (k d b : ℕ) → block_in (row_in s k) ≡ Some (d, b) → IsSome (key_at s d)
  -- blocks stand without gaps
  pub packed : (k : ℕ) → FIRST_BLOCK ≤ k → IsSome (row_at s (k + 1)) → IsSome (row_at s k)
  -- no two are of the same device and number
  pub distinct : (i j d b : ℕ) → block_in (row_in s i) ≡ Some (d, b) → block_in (row_in s j) ≡ Some (d, b) → i ≡ j

-- a row of cell k, where there is one, is its own and sound
pub record IsRowAt (k : ℕ) (x : Row) : Type 0 where
  pub place : IsIn k x
  pub sound : IsSoundRow x

pub record AreSound (s : Seen) : Type 0 where
  pub long : length s ≡ VERIFIER_CELLS
  pub each : (k : ℕ) → IfSome (row_in s k) (IsRowAt k)
  pub together : AreTogether s

-- a record that storage can show: rows that are sound, and no cell with more commits than it can count
pub record IsKnown (s : Seen) : Type 0 where
  pub sound : AreSound s
  pub few : (k : ℕ) → commits_at (row_at s k) ≤ MOST_COMMITS

-- == a change ==

abbrev pub cell_of : Change → ℕ
cell_of (change.Trust d key) = d - 1
cell_of (change.Accept cell d b place n) = cell

-- the row that a change leaves in its cell: of a block, with one scan more
abbrev pub row_with : Seen → Change → Row
row_with s (change.Trust d key) = TrustRow d key
row_with s (change.Accept cell d b place n) = BlockRow d b (set (scans_in (row_in s cell)) place n)

abbrev pub counting : Counting Seen Change
counting = record {
  count = λ s. commits_in s;
  is_worn = λ s x. is_worn s (cell_of x);
  after = λ s x. put s (cell_of x) (row_with s x);
}
