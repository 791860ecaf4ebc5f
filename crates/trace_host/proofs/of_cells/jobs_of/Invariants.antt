use Rattle.std.proofs.Common.{◌≡◌, ◌<◌, ℕ, length}
use Rattle.node_acts.specs.RowList.{row_at, row_of}
use Rattle.host_jobs.specs.declared.sizes.TheConstants.{HOST_CELLS}
use Rattle.host_jobs.specs.Rows.{row_in}
use Rattle.trace_host.proofs.of_cells.jobs_of.Given as goal

abbrev pub invariant-loop-cell : goal.invariant-loop-cell
invariant-loop-cell l = record {
  long : length l.jobs ≡ HOST_CELLS;
  each : (k : ℕ) → k < l.cell → row_in l.jobs k ≡ row_of (row_at l.cells k);
}
