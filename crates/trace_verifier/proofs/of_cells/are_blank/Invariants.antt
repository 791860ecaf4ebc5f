use Rattle.std.proofs.Common.{◌≡◌, ℕ, ◌<◌, ◌≤◌, None}
use Rattle.node_acts.specs.RowList.{row_at}
use Rattle.trace_verifier.specs.Helds.{seen_by}
use Rattle.trace_verifier.proofs.of_cells.are_blank.Given as goal

abbrev pub invariant-loop-cell : goal.invariant-loop-cell
invariant-loop-cell l = (k : ℕ) → l.first ≤ k → k < l.cell → row_at (seen_by l.cells) k ≡ None
