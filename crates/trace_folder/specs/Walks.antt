-- What cells show together, by what each shows: private calls and proofs alone name these.
use Rattle.std.specs.Prelude.{◌≡◌, ◌⊎◌, ℕ, ◌*◌, ◌<◌, List, length, Option}
use Rattle.std.specs.Io.KnownBytes.{Consumes}
use Rattle.nv_model.specs.Bytes.{range}
use Rattle.node_images.specs.declared.cell.CellShows.{CellShows}
use Rattle.node_images.specs.declared.cell.CellShows.TheVariants as cell
use Rattle.node_images.specs.Cells.{IsWhat}
use Rattle.trace_folder.specs.declared.shows.Shows.{Shows}
use Rattle.trace_folder.specs.declared.shows.Shows.TheVariants.{Counted, Open, Other}

-- the bytes of cell k, if each cell has so many
abbrev pub cell_in : ℕ → List ℕ → ℕ → List ℕ
cell_in size image k = range image (k * size) size

-- a cell was read, and it shows this
pub record IsReadCell (size : ℕ) (counted opened : List ℕ → Type 0) (left0 left1 : Option (List ℕ)) (shows : CellShows) : Type 0 where
  pub cell : List ℕ
  pub taken : Consumes left0 left1 cell
  pub long : length cell ≡ size
  pub is : IsWhat (counted cell) (opened cell) shows

module _ (counted opened : ℕ → List ℕ → Type 0) (bytes : ℕ → List ℕ) where
  -- cell k shows either of them
  abbrev pub ShowsEither : ℕ → Type 0
  ShowsEither k = counted k (bytes k) ⊎ opened k (bytes k)

  -- a cell shows the commit in doubt alone
  pub record HasOpen (n : ℕ) : Type 0 where
    pub place : ℕ
    pub inside : place < n
    pub shown : opened place (bytes place)
    pub not : counted place (bytes place) → ⊥

  -- what the first n cells show
  abbrev pub CellsAre : ℕ → Shows → Type 0
  CellsAre n Counted = (k : ℕ) → k < n → counted k (bytes k)
  CellsAre n Open = ((k : ℕ) → k < n → ShowsEither k) × HasOpen n
  CellsAre n (Other k) = (k < n) × (counted k (bytes k) → ⊥) × (opened k (bytes k) → ⊥) × ((j : ℕ) → j < k → ShowsEither j)

-- what an image of one cell shows
abbrev pub image_of : CellShows → Shows
image_of cell.Counted = Counted
image_of cell.Open = Open
image_of cell.Other = Other 0
