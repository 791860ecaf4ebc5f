-- What the bytes of a cell show, by what was counted of it and by its commit in doubt.
use Rattle.std.specs.Prelude.{ℕ, ◌+◌, List, Option, Some, None}
use Rattle.nv_store.specs.Slot.{slots_at, current, IsClear}
use Rattle.node_acts.specs.RowList.{commits_at}
use Rattle.row_node.specs.Shows.{IsHeldAs}
use Rattle.node_images.specs.declared.cell.CellShows.{CellShows}
use Rattle.node_images.specs.declared.cell.CellShows.TheVariants.{Counted, Open, Other}

-- the cell, of two slots, is clear, and shows this: nothing, or so many commits and a payload that reads as the row
pub record ShowsCell {R : Type 0} (size : ℕ) (reads : R → List ℕ → Type 0) (seen : Option (ℕ × R)) (cell : List ℕ) : Type 0 where
  pub held : IsHeldAs reads seen (current 2 (slots_at size 0 cell))
  pub clear : IsClear 2 (slots_at size 0 cell)

-- what is seen of a cell once this row is committed to it
abbrev pub with_row : {R : Type 0} → Option (ℕ × R) → R → Option (ℕ × R)
with_row seen x = Some (commits_at seen + 1, x)

-- it shows that with the row that is in doubt, if there is one
abbrev pub ShowsOpen : {R : Type 0} → ℕ → (R → List ℕ → Type 0) → Option (ℕ × R) → Option R → List ℕ → Type 0
ShowsOpen size reads seen None cell = ⊥
ShowsOpen size reads seen (Some x) cell = ShowsCell size reads (with_row seen x) cell

-- COUNTED if what was counted is shown; OPEN if that with the commit in doubt is shown; OTHER if neither is
abbrev pub IsWhat : Type 0 → Type 0 → CellShows → Type 0
IsWhat counted opened Counted = counted
IsWhat counted opened Open = opened × (counted → ⊥)
IsWhat counted opened Other = (counted → ⊥) × (opened → ⊥)

-- by a row that is in doubt of this cell, if there is one
abbrev pub CellIs : {R : Type 0} → ℕ → (R → List ℕ → Type 0) → Option (ℕ × R) → Option R → List ℕ → CellShows → Type 0
CellIs size reads seen changed cell shows = IsWhat (ShowsCell size reads seen cell) (ShowsOpen size reads seen changed cell) shows
