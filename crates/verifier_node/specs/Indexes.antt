-- What a change makes of the index of blocks.
use Rattle.std.specs.Prelude.{◌≡◌, ℕ, ◌+◌, ◌<◌, Bool, true, false, List, length, None}
use Rattle.bench_base.specs.declared.sizes.TheConstants.{MOST_BLOCKS}
use Rattle.verifier.specs.declared.{acts.Change.Change, index.Entry.Entry}
use Rattle.verifier.specs.declared.acts.Change.TheVariants as change
use Rattle.verifier.specs.Index.{cell_in, with_cell}

-- the block can be added
pub record CanAdd (es : List Entry) (d b : ℕ) : Type 0 where
  pub fresh : cell_in es d b ≡ None
  pub room : length es < MOST_BLOCKS

-- the block was added, with its cell
pub record IsAdded (old new : List Entry) (d b cell : ℕ) : Type 0 where
  pub added : (e c : ℕ) → cell_in new e c ≡ with_cell d b cell old e c
  pub more : length new ≡ length old + 1

-- where the cell of the change was blank, its block can be added
abbrev pub CanIndex : Bool → List Entry → Change → Type 0
CanIndex false es x = Unit {0}
CanIndex true es (change.Trust d key) = Unit {0}
CanIndex true es (change.Accept cell d b place n) = CanAdd es d b

-- and it was
abbrev pub Indexes : Bool → List Entry → List Entry → Change → Type 0
Indexes false old new x = new ≡ old
Indexes true old new (change.Trust d key) = new ≡ old
Indexes true old new (change.Accept cell d b place n) = IsAdded old new d b cell
