-- What is read out of the cells of an image of the verifier's storage.
use Rattle.std.specs.Prelude.{◌≡◌, ℕ, ◌<◌, List, length}
use Rattle.node_acts.specs.RowList.{row_at}
use Rattle.verifier.specs.Payload.{IsPayloadOf}
use Rattle.verifier.specs.Seen.{Seen}
use Rattle.node_images.specs.Cells.{ShowsCell}
use Rattle.node_images.specs.Joined.{bytes_of}

-- the first n cells of an image show these rows
pub record RowsShown (n : ℕ) (cells : Seen) (image : List ℕ) : Type 0 where
  pub long : length cells ≡ n
  pub each : (k : ℕ) → k < n → ShowsCell 2056 (IsPayloadOf k) (row_at cells k) (bytes_of 2056 k image)
