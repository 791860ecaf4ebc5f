use Rattle.std.proofs.Common.{ℕ, ◌≤◌}
use Rattle.host_departments.specs.Kept.{rows_in}
use Rattle.host_departments.specs.Rows.{IsDepartment, IsSoundAt}
use Rattle.host_departments.proofs.kept.are_sound.Given as goal

abbrev pub invariant-loop-before : goal.invariant-loop-before
invariant-loop-before l = record { each : (d : ℕ) → IsDepartment d → d ≤ l.before → IsSoundAt (rows_in l.room) d }
