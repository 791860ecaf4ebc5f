use Rattle.std.proofs.Common.{◌≡◌, ◌*◌, ◌<◌, ◌≤◌, ℕ, take, sum_by, get_or, None}
use Rattle.bench_base.specs.declared.sizes.TheConstants.{MOST_COMMITS}
use Rattle.node_acts.specs.RowList.{commits_at}
use Rattle.trace_verifier.specs.Helds.{seen_cell}
use Rattle.trace_verifier.proofs.of_cells.count_all.Given as goal

abbrev pub invariant-loop-cell : goal.invariant-loop-cell
invariant-loop-cell l = record {
  total_is : l.total ≡ sum_by (λ cell. commits_at (seen_cell cell)) (take l.cell-index l.cells);
  small : l.total ≤ l.cell-index * MOST_COMMITS;
  few : (k : ℕ) → k < l.cell-index → commits_at (seen_cell (get_or l.cells k None)) ≤ MOST_COMMITS;
}
