use Rattle.std.proofs.Common.{◌≡◌, ℕ, ◌<◌, ◌≤◌, ◌*◌, take, sum_by}
use Rattle.bench_base.specs.declared.sizes.TheConstants.{MOST_COMMITS}
use Rattle.node_acts.specs.RowList.{row_at, commits_at}
use Rattle.trace_centre.proofs.rows.commits_in.Given as goal

abbrev pub invariant-loop-place : goal.invariant-loop-place
invariant-loop-place l = record {
  total : l.total ≡ sum_by commits_at (take l.place l.cells);
  small : l.total ≤ l.place * MOST_COMMITS;
  few : (k : ℕ) → k < l.place → commits_at (row_at l.cells k) ≤ MOST_COMMITS;
}
