-- The laws of a table of rows, which each kind of node proves.
use Rattle.std.specs.Prelude.{◌≡◌, ◌≢◌, ℕ, ◌<◌, ◌≤◌, List, length, Option, Some, None, Bool, false, IsSome, MatchBool}
use Rattle.nv_store.specs.declared.TheConstants.{MOST_BYTES}
use Rattle.nv_store.specs.Slot.{Held}
use Rattle.nv_store.specs.Store.{after_commit}
use Rattle.node_acts.specs.RowList.{RowList}
use Rattle.row_node.specs.ShowsLaws.{ReadsOne}
use Rattle.row_node.specs.Tables.{Table, Keeps, seen_of, counting}
use Rattle.row_node.specs.Boots.{Found}

module _ {S X : Type 0} (t : Table S X) where
  -- a cell is blank, or it is not
  abbrev pub IsBlank : Bool → Option Held → Type 0
  IsBlank blank h = MatchBool blank (h ≡ None) (IsSome h)

  -- a change that may come next and its payload, over these cells
  pub record IsNext (m : S) (held : ℕ → Option Held) (x : X) (payload : List ℕ) (blank : Bool) : Type 0 where
    pub keeps : Keeps t m held
    pub fits : t.IsFit (seen_of t m held) x
    pub has : t.HasCell x
    pub is_blank : IsBlank blank (held (t.cell x))
    pub reads : t.reads (t.cell x) (t.row (seen_of t m held) x) payload

  -- the cells after it was committed
  pub record IsCommitted (m : S) (held held' : ℕ → Option Held) (x : X) (payload : List ℕ) (blank : Bool) : Type 0 where
    pub next : IsNext m held x payload blank
    pub here : held' (t.cell x) ≡ after_commit (held (t.cell x)) payload
    pub others : (k : ℕ) → k ≢ t.cell x → held' k ≡ held k

  -- what is kept then: the row lies in its cell, and all others lie where they were
  pub record Takes (m m' : S) (held held' : ℕ → Option Held) (x : X) : Type 0 where
    pub here : t.kept m' held' (t.cell x) ≡ Some (t.row (seen_of t m held) x)
    pub others : (k : ℕ) → k ≢ t.cell x → t.kept m' held' k ≡ t.kept m held k
    pub follows : t.Follows m' held'

pub record Laws {S X : Type 0} (size : ℕ) (t : Table S X) : Type 0 where
  pub small : size ≤ MOST_BYTES
  pub inside : (x : X) → t.HasCell x → t.cell x < t.cells
  -- a payload reads as one row
  pub one_row : ReadsOne t.reads
  -- a sound record has a place for each cell, and its rows agree
  pub long : (s : RowList t.Row) → t.IsSound s → length s ≡ t.cells
  pub agree : (s : RowList t.Row) → t.IsSound s → t.Agree s
  -- what a boot finds is sound, and what a commit makes of it is sound too
  pub sound : (m : S) (held : ℕ → Option Held) → Found t m held → t.IsSound (seen_of t m held)
  pub stays_sound : (s : RowList t.Row) (x : X) → t.IsSound s → t.HasCell x → t.IsFit s x → (counting t).is_worn s x ≡ false
      → t.IsSound ((counting t).after s x)
