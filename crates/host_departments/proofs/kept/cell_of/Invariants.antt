use Rattle.std.proofs.Common.{ℕ, ◌<◌}
use Rattle.host_departments.specs.Kept.{rows_in}
use Rattle.host_departments.specs.Rows.{Keeps}
use Rattle.host_departments.proofs.kept.cell_of.Given as goal

abbrev pub invariant-loop-cell : goal.invariant-loop-cell
invariant-loop-cell l = record { none : (k : ℕ) → k < l.cell → Keeps (rows_in l.room) k l.job → ⊥ }
