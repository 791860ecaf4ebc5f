-- The jobs of cells.
use Rattle.std.proofs.Common.{◌≡◌, ℕ, ◌<◌, length, None, sym, ◌∙◌, arith}
use Rattle.std.proofs.lemmas.List.{ext_get_or, get_or-map, length-map}
use Rattle.node_acts.specs.RowList.{RowList, row_at, row_of}
use Rattle.host_jobs.specs.declared.{rows.JobRow.JobRow, sizes.TheConstants.HOST_CELLS}
use Rattle.host_jobs.specs.Rows.{Jobs, row_in}
use Rattle.host_jobs.specs.Seen.{rows_in}

pub jobs_are : (cells : RowList JobRow) (jobs : Jobs) → length cells ≡ HOST_CELLS → length jobs ≡ HOST_CELLS
    → ((k : ℕ) → k < HOST_CELLS → row_in jobs k ≡ row_of (row_at cells k)) → jobs ≡ rows_in cells
jobs_are cells jobs long many each =
    ext_get_or None jobs (rows_in cells) (many ∙ sym (length-map cells row_of ∙ long)) (λ k lt.
    let inside : k < length cells = omega (arith, lt, many, long) in
    each k (omega (arith, lt, many)) ∙ sym (get_or-map row_of cells k None None inside))
