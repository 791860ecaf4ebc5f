use Rattle.std.proofs.Common.{◌≡◌, ◌*◌, ◌<◌, ◌≤◌, ℕ, take, sum_by}
use Rattle.bench_base.specs.declared.sizes.TheConstants.{MOST_COMMITS}
use Rattle.node_acts.specs.RowList.{commits_at, row_at}
use Rattle.trace_host.proofs.of_cells.count_all.Given as goal

abbrev pub invariant-loop-cell : goal.invariant-loop-cell
invariant-loop-cell l = record {
  total_is : l.total ≡ sum_by commits_at (take l.cell-index l.cells);
  small : l.total ≤ l.cell-index * MOST_COMMITS;
  few : (k : ℕ) → k < l.cell-index → commits_at (row_at l.cells k) ≤ MOST_COMMITS;
}
