-- What is seen of the cells of a table, by what their payloads read as.
use Rattle.std.specs.Prelude.{◌≡◌, ℕ, ◌<◌, List, Option, Some, None, IsSome}
use Rattle.std.proofs.Props.{props}
use Rattle.nv_store.specs.Slot.{Held}
use Rattle.node_acts.specs.RowList.{RowList}
use Rattle.row_node.specs.Kept.{seen_by}

module _ {R : Type 0} (row : ℕ → List ℕ → Option R) where
  abbrev pub ReadsAs : ℕ → R → List ℕ → Type 0
  ReadsAs k x payload = row k payload ≡ Some x

  -- the row of what a cell holds
  abbrev pub row_held : ℕ → Option Held → Option R
  row_held k None = None
  row_held k (Some h) = row k h.1

  -- a cell is blank or its payload reads as a row
  abbrev pub IsRead : ℕ → Option Held → Type 0
  IsRead k None = Unit {0}
  IsRead k (Some h) = IsSome (row k h.1)

  -- each of the first cells is blank or reads as a row
  abbrev pub AllRead : ℕ → (ℕ → Option Held) → Type 0
  AllRead cells held = (k : ℕ) → k < cells → IsRead k (held k)

  -- the rows with the counts of their cells
  abbrev pub seen_in : ℕ → (ℕ → Option Held) → RowList R
  seen_in cells held = seen_by cells held (λ k. row_held k (held k))

  -- == laws ==

  read_one : (k : ℕ) (o : Option Held) → IsProp (IsRead k o)
  read_one k None = hlevel props
  read_one k (Some h) = hlevel props

  -- that they do has one proof at most
  pub read_prop : (cells : ℕ) (held : ℕ → Option Held) → IsProp (AllRead cells held)
  read_prop cells held =
      let each : (k : ℕ) → IsProp (IsRead k (held k)) = λ k. read_one k (held k) in
      hlevel (each, props)
