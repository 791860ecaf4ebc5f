use Rattle.std.proofs.Common.{ℕ, ◌<◌}
use Rattle.host_departments.specs.Kept.{rows_in}
use Rattle.host_departments.specs.Rows.{Keeps}
use Rattle.host_departments.proofs.kept.are_lone.Given as goal

abbrev pub invariant-loop-cell : goal.invariant-loop-cell
invariant-loop-cell l = record { alone : (i : ℕ) → i < l.cell → (j k : ℕ) → i < k → Keeps (rows_in l.room) i j → Keeps (rows_in l.room) k j → ⊥ }
