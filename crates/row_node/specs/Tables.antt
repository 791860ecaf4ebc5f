-- What a node of rows is, whatever its rows: how its cells read as rows, which rows are sound, and what it keeps beside them.
use Rattle.std.specs.Prelude.{ℕ, ◌+◌, ◌*◌, List, Option}
use Rattle.nv_model.specs.declared.nv.Nv.{Ghosts}
use Rattle.nv_store.specs.Slot.{Held}
use Rattle.nv_store.specs.Fills.{Fill}
use Rattle.node_acts.specs.RowList.{RowList, commits_in, is_worn, put}
use Rattle.node_acts.specs.Views.{Counting}
use Rattle.row_node.specs.Shows.{ShowsRows, IsDamagedTable, row_fill}
use Rattle.row_node.specs.Kept.{AreFilled, seen_by}

-- S is what the node keeps beside the memory of its cells, and X a change of a row
pub record Table (S X : Type 0) : Type 1 where
  pub Row : Type 0
  pub cells : ℕ
  -- the payload of cell k reads as this row
  pub reads : ℕ → Row → List ℕ → Type 0
  pub one_way : (k : ℕ) (x : Row) (p : List ℕ) → IsProp (reads k x p)
  -- the one spelling of a row that is written
  pub spelled : Row → List ℕ
  -- the cell of a change, and the row that it leaves there
  pub cell : X → ℕ
  pub row : RowList Row → X → Row
  -- the cell of the change is there
  pub HasCell : X → Type 0
  -- the change is one that may come next
  pub IsFit : RowList Row → X → Type 0
  -- the rows meet the conditions that they have together
  pub Agree : RowList Row → Type 0
  -- a record that storage can show
  pub IsSound : RowList Row → Type 0
  -- the rows by what is kept, over cells that hold this
  pub kept : S → (ℕ → Option Held) → ℕ → Option Row
  -- what is kept besides the rows follows from the cells
  pub Follows : S → (ℕ → Option Held) → Type 0
  pub one_follows : (m : S) (held : ℕ → Option Held) → IsProp (Follows m held)

module _ {S X : Type 0} (t : Table S X) where
  -- the size of its storage, with payloads of this size
  abbrev pub bytes_of : ℕ → ℕ
  bytes_of size = t.cells * (2 * (5 + size))

  abbrev pub counting : Counting (RowList t.Row) X
  counting = record {
    count = λ s. commits_in s;
    is_worn = λ s x. is_worn s (t.cell x);
    after = λ s x. put s (t.cell x) (t.row s x);
  }

  -- an image that shows these rows
  abbrev pub IsShown : ℕ → RowList t.Row → List ℕ → Type 0
  IsShown size s image = ShowsRows size t.cells t.reads s image

  -- why a boot answers Damaged: the size is another, or what the storage is sure to hold is mixed, no rows, or rows that do not agree
  abbrev pub IsDamaged : {N : Type 0} → ℕ → Ghosts N → N → Type 0
  IsDamaged size g nv = IsDamagedTable size t.cells t.reads t.Agree g nv

  -- the commit of a change: to its cell, the row that it leaves there
  abbrev pub fill_of : ℕ → RowList t.Row → X → Fill
  fill_of size s x = row_fill size s (t.cell x) (t.spelled (t.row s x))

  -- the cells hold the rows that are kept
  abbrev pub Filled : S → (ℕ → Option Held) → Type 0
  Filled m held = AreFilled t.cells t.reads (t.kept m held) held

  -- what is seen of the cells
  abbrev pub seen_of : S → (ℕ → Option Held) → RowList t.Row
  seen_of m held = seen_by t.cells held (t.kept m held)

  pub record Keeps (m : S) (held : ℕ → Option Held) : Type 0 where
    pub filled : Filled m held
    pub follows : t.Follows m held
