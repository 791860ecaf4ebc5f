use Rattle.std.proofs.Common.{ℕ, ◌<◌}
use Rattle.host_departments.specs.Kept.{rows_in}
use Rattle.host_departments.specs.Rows.{Keeps}
use Rattle.host_departments.proofs.kept.is_lone.Given as goal

abbrev pub invariant-loop-other : goal.invariant-loop-other
invariant-loop-other l = record { none : (k : ℕ) → l.cell < k → k < l.other → Keeps (rows_in l.room) k l.job → ⊥ }
