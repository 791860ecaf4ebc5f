-- When all cells of an image show rows.
use Rattle.std.specs.Prelude.{◌↔◌, ℕ, ◌+◌, ◌*◌, ◌<◌, List}
use Rattle.nv_model.specs.Bytes.{range}
use Rattle.node_acts.specs.RowList.{RowList, row_at}
use Rattle.row_node.specs.Shows.{ShowsRows}
use Rattle.node_images.specs.Cells.{ShowsCell}

-- the bytes of cell k of an image
abbrev pub bytes_of : ℕ → ℕ → List ℕ → List ℕ
bytes_of size k image = range image (k * (2 * (5 + size))) (2 * (5 + size))

-- AN IMAGE SHOWS ROWS if and only if each of its cells shows the row of its place
abbrev pub Joins : {R : Type 0} → ℕ → ℕ → (ℕ → R → List ℕ → Type 0) → Type 0
Joins {R} size cells reads = (s : RowList R) (image : List ℕ)
    → ShowsRows size cells reads s image ↔ ((k : ℕ) → k < cells → ShowsCell size (reads k) (row_at s k) (bytes_of size k image))
