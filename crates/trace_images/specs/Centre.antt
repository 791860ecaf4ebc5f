-- What is read out of the cells of an image of the centre's storage.
use Rattle.std.specs.Prelude.{◌≡◌, ℕ, ◌<◌, List, length, Option, IfSome}
use Rattle.node_acts.specs.RowList.{row_at, row_of}
use Rattle.centre_ledger.specs.declared.rows.Row.{Row}
use Rattle.centre_ledger.specs.Seen.{Seen}
use Rattle.centre_protocol.specs.Payloads.{IsPayloadOf}
use Rattle.node_images.specs.Cells.{ShowsCell}
use Rattle.node_images.specs.Joined.{bytes_of}
use Rattle.trace_centre.specs.Records.{IsRowOf}

-- the bytes of cell k show this, and its row is sound and in its own cell
pub record RowShown (k : ℕ) (seen : Option (ℕ × Row)) (cell : List ℕ) : Type 0 where
  pub shows : ShowsCell 192 (IsPayloadOf k) seen cell
  pub own : IfSome (row_of seen) (IsRowOf k)

-- so of the first n cells of an image
pub record RowsShown (n : ℕ) (cells : Seen) (image : List ℕ) : Type 0 where
  pub long : length cells ≡ 72
  pub own : (k : ℕ) → IfSome (row_of (row_at cells k)) (IsRowOf k)
  pub each : (k : ℕ) → k < n → ShowsCell 192 (IsPayloadOf k) (row_at cells k) (bytes_of 192 k image)
