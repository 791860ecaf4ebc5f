-- What is read out of the cells of an image of the host's storage.
use Rattle.std.specs.Prelude.{◌≡◌, ℕ, ◌<◌, List, length, Option, IfSome}
use Rattle.node_acts.specs.RowList.{row_at, row_of}
use Rattle.host_jobs.specs.declared.{rows.JobRow.JobRow}
use Rattle.host_jobs.specs.Seen.{Seen}
use Rattle.host_jobs.specs.Soundness.{IsJobAt}
use Rattle.host_node.specs.Payloads.{IsPayloadOf}
use Rattle.node_images.specs.Cells.{ShowsCell}
use Rattle.node_images.specs.Joined.{bytes_of}

-- the bytes of cell k show this, and its job is sound and in its own cell
pub record JobShown (k : ℕ) (seen : Option (ℕ × JobRow)) (cell : List ℕ) : Type 0 where
  pub shows : ShowsCell 115 (IsPayloadOf k) seen cell
  pub own : IfSome (row_of seen) (IsJobAt k)

-- so of the first n cells of an image
pub record JobsShown (n : ℕ) (cells : Seen) (image : List ℕ) : Type 0 where
  pub long : length cells ≡ n
  pub each : (k : ℕ) → k < n → JobShown k (row_at cells k) (bytes_of 115 k image)
