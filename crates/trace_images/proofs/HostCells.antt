-- What was read out of the cells of an image of the host's storage.
use Rattle.std.proofs.Common.{◌≡◌, ℕ, ◌+◌, List, [], ◌∷◌, ◌++◌, Option, arith}
use Rattle.std.proofs.lemmas.Grind.{not_there}
use Rattle.std.proofs.lemmas.List.{length-append}
use Rattle.nv_store.specs.Slot.{slots_at}
use Rattle.nv_bytes.specs.Newest.{ShowsHeld}
use Rattle.row_node.specs.Shows.{ShowsRows}
use Rattle.node_images.specs.Cells.{ShowsCell}
use Rattle.node_images.specs.Joined.{bytes_of}
use Rattle.host_jobs.specs.declared.{rows.JobRow.JobRow, sizes.TheConstants.HOST_CELLS}
use Rattle.host_jobs.specs.Payload.{JobReadsAs}
use Rattle.host_jobs.specs.Seen.{Seen, cell_of, IsKnown}
use Rattle.host_node.specs.Payloads.{IsPayloadOf}
use Rattle.host_node.specs.Table.{host_laws}
use Rattle.trace_images.specs.Host.{JobShown, JobsShown}
use Rattle.trace_images.proofs.Reading.{none_reads, more_cells, whole_image, no_other}

-- == one cell ==

module _ (k count : ℕ) (payload cell : List ℕ) (shows : ShowsHeld 2 (slots_at 115 0 cell) (count, payload)) where
  pub no_job : ((x : JobRow) → cell_of x ≡ k → JobReadsAs payload x → ⊥) → (seen : Option (ℕ × JobRow)) → ShowsCell 115 (IsPayloadOf k) seen cell → ⊥
  no_job none = none_reads 115 (IsPayloadOf k) cell count payload shows (λ x reads. not_there reads.1 (none x reads.0))

-- == all cells ==

pub more_jobs : (n : ℕ) (cells : Seen) (seen : Option (ℕ × JobRow)) (image : List ℕ) → JobsShown n cells image → JobShown n seen (bytes_of 115 n image)
    → JobsShown (n + 1) (cells ++ (seen ∷ [])) image
more_jobs n cells seen image shown here = record {
  long = omega (arith, length-append cells (seen ∷ []), shown.long);
  each = more_cells (λ k o. JobShown k o (bytes_of 115 k image)) n cells seen shown.long shown.each here;
}

module _ (cells : Seen) (image : List ℕ) (shown : JobsShown HOST_CELLS cells image) where
  pub shows_jobs : ShowsRows 115 1024 IsPayloadOf cells image
  shows_jobs = whole_image 115 1024 IsPayloadOf image cells (λ k lt. (shown.each k lt).shows)

  -- an image with jobs that do not agree shows no record
  pub no_record : (IsKnown cells → ⊥) → (s : Seen) → IsKnown s → ShowsRows 115 1024 IsPayloadOf s image → ⊥
  no_record breaks s known shows = no_other 115 1024 IsPayloadOf image IsKnown host_laws.one_row cells shown.long shows_jobs breaks s known.long known shows
