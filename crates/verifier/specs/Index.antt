-- The blocks in use by device and number, as they are kept in order, each with its cell.
use Rattle.std.specs.Prelude.{◌≡◌, ℕ, ◌+◌, ◌-◌, ◌*◌, ◌^◌, ◌<◌, ◌≤◌, Bool, ◌&&◌, List, [], ◌∷◌, length, take, get_or, Option, Some, None, ◌==◌, if◌then◌else◌}
use Rattle.bench_base.specs.declared.sizes.TheConstants.{MOST_BLOCKS, FIRST_BLOCK}
use Rattle.verifier.specs.declared.index.Entry.{Entry}
use Rattle.verifier.specs.Seen.{Seen, used, cell_of_block}

abbrev pub is_of : ℕ → ℕ → Entry → Bool
is_of d b e = (e.device == d) && (e.block == b)

-- the cell of the block
abbrev pub cell_in : List Entry → ℕ → ℕ → Option ℕ
cell_in [] d b = None
cell_in (e ∷ es) d b = if is_of d b e then Some e.cell else cell_in es d b

-- the cell of each block once one more is added
abbrev pub with_cell : ℕ → ℕ → ℕ → List Entry → ℕ → ℕ → Option ℕ
with_cell e n cell es d b = if (e == d) && (n == b) then Some cell else cell_in es d b

-- the rank of a block in the order by number, then device; the device has 32 bits
abbrev pub rank : ℕ → ℕ → ℕ
rank d b = b * 2 ^ 32 + d

abbrev pub rank_of : Entry → ℕ
rank_of e = rank e.device e.block

-- past the end of a list
abbrev pub nothing : Entry
nothing = record { device = 0; block = 0; cell = 0 }

-- each entry comes after those before it
abbrev pub AreRising : List Entry → Type 0
AreRising es = (i j : ℕ) → i < j → j < length es → rank_of (get_or es i nothing) < rank_of (get_or es j nothing)

-- two neighbours are of one block
pub record HaveTie (es : List Entry) : Type 0 where
  pub later : ℕ
  pub second : 0 < later
  pub inside : later < length es
  pub same : rank_of (get_or es (later - 1) nothing) ≡ rank_of (get_or es later nothing)

-- the entries are in order, each block once
pub record AreOrdered (es : List Entry) : Type 0 where
  pub rising : AreRising es
  pub words : (i : ℕ) → (get_or es i nothing).device < 2 ^ 32

-- of an array that has room for all blocks the first entries count
pub record IsIndexArray (entries : List Entry) (len : ℕ) : Type 0 where
  pub size : length entries ≡ MOST_BLOCKS
  pub room : len ≤ MOST_BLOCKS
  pub ordered : AreOrdered (take len entries)

-- the entry is of cell k, which holds a block that `holds` allows
pub record IsEntryOf (holds : ℕ → ℕ × ℕ → Type 0) (k : ℕ) (e : Entry) : Type 0 where
  pub block : holds k (e.device, e.block)
  pub cell : e.cell ≡ k
  pub word : e.device < 2 ^ 32

-- the entry of cell k, by the block that each cell holds
abbrev pub entry_in : (ℕ → ℕ × ℕ) → ℕ → Entry
entry_in blocks k = record { device = (blocks k).0; block = (blocks k).1; cell = k }

-- the index has the blocks of the cells before n, each with its cell, and no other
pub record HasBlocks (es : List Entry) (blocks : ℕ → ℕ × ℕ) (n : ℕ) : Type 0 where
  pub many : FIRST_BLOCK + length es ≡ n
  pub found : (k : ℕ) → FIRST_BLOCK ≤ k → k < n → cell_in es (blocks k).0 (blocks k).1 ≡ Some k
  pub only : (d b k : ℕ) → cell_in es d b ≡ Some k → (FIRST_BLOCK ≤ k) × ((k < n) × (blocks k ≡ (d, b)))

-- two of the cells before n hold one block
pub record HasTwice (blocks : ℕ → ℕ × ℕ) (n : ℕ) : Type 0 where
  pub one : ℕ
  pub other : ℕ
  pub from : FIRST_BLOCK ≤ one
  pub before : one < other
  pub inside : other < n
  pub same : blocks one ≡ blocks other

-- the index has exactly the blocks in use, each with its cell
pub record IsIndexOf (es : List Entry) (s : Seen) : Type 0 where
  pub cells : (d b : ℕ) → cell_in es d b ≡ cell_of_block s d b
  pub many : length es ≡ used s
