-- What an image shows of the rows of a table. `reads k x p` says that the payload p of cell k reads as the row x.
use Rattle.std.specs.Prelude.{◌≡◌, ◌≢◌, ◌⊎◌, ℕ, ◌+◌, ◌*◌, ◌<◌, List, length, Option, Some, None}
use Rattle.nv_model.specs.declared.nv.Nv.{Ghosts}
use Rattle.nv_model.specs.Moments.{Only}
use Rattle.nv_store.specs.Fills.{Fill, cell_fill}
use Rattle.nv_store.specs.Scans.{IsMixed}
use Rattle.nv_store.specs.Slot.{Held, slots_at}
use Rattle.nv_store.specs.Store.{cell_shown, CellClear}
use Rattle.node_acts.specs.RowList.{RowList, row_at, commits_at}

-- a cell holds what is seen of it: nothing, or so many commits and a payload that reads as the row
abbrev pub IsHeldAs : {R : Type 0} → (R → List ℕ → Type 0) → Option (ℕ × R) → Option Held → Type 0
IsHeldAs reads None None = Unit {0}
IsHeldAs reads None (Some h) = ⊥
IsHeldAs reads (Some x) None = ⊥
IsHeldAs reads (Some x) (Some h) = (h.0 ≡ x.0) × reads x.1 h.1

-- a commit of these bytes to cell k of a table that shows these rows: with one commit more than the cell has
abbrev pub row_fill : {R : Type 0} → ℕ → RowList R → ℕ → List ℕ → Fill
row_fill size s k bytes = cell_fill size 2 k (commits_at (row_at s k) + 1, bytes)

module _ {R : Type 0} (size cells : ℕ) (reads : ℕ → R → List ℕ → Type 0) where
  -- an image that shows these rows: each cell holds what is seen of it, and none is mixed
  pub record ShowsRows (s : RowList R) (image : List ℕ) : Type 0 where
    pub each : (k : ℕ) → k < cells → IsHeldAs (reads k) (row_at s k) (cell_shown size 2 image k)
    pub clear : (k : ℕ) → k < cells → CellClear size 2 image k

  -- == when a storage is no table of such rows ==

  -- a cell has an open slot of count 0, or two open slots of equal count
  pub record HasMixedCell (image : List ℕ) : Type 0 where
    pub cell : ℕ
    pub inside : cell < cells
    pub mixed : IsMixed 2 (slots_at size (cell * (2 * (5 + size))) image)

  -- the payload of a cell reads as no row
  pub record HasForeignCell (image : List ℕ) : Type 0 where
    pub cell : ℕ
    pub held : Held
    pub inside : cell < cells
    pub shown : cell_shown size 2 image cell ≡ Some held
    pub reads_none : (x : R) → reads cell x held.1 → ⊥

  module _ (IsSound : RowList R → Type 0) where
    -- each payload reads as a row, and the rows are not sound together
    pub record BreaksTogether (image : List ℕ) : Type 0 where
      pub rows : RowList R
      pub long : length rows ≡ cells
      pub shows : ShowsRows rows image
      pub breaks : IsSound rows → ⊥

    -- why a boot answers Damaged: the size is another, or what the storage is sure to hold is mixed, no rows, or no sound ones
    abbrev pub IsDamagedTable : {N : Type 0} → Ghosts N → N → Type 0
    IsDamagedTable g nv = (g.size nv ≢ cells * (2 * (5 + size)))
        ⊎ (Only (g.times nv) (g.content nv) × (HasMixedCell (g.content nv) ⊎ (HasForeignCell (g.content nv) ⊎ BreaksTogether (g.content nv))))
