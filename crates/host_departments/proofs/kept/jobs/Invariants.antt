use Rattle.std.proofs.Common.{ℕ, ◌<◌, ◌+◌}
use Rattle.std.specs.Prelude.{IsSome}
use Rattle.host_departments.specs.Kept.{rows_in}
use Rattle.host_departments.specs.Rows.{row_in, first_cell}
use Rattle.host_departments.proofs.kept.jobs.Given as goal

abbrev pub invariant-loop-place : goal.invariant-loop-place
invariant-loop-place l = record { filled : (i : ℕ) → i < l.place → IsSome (row_in (rows_in l.room) (first_cell l.department + i)) }
