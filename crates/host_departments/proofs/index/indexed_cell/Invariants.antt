use Rattle.std.proofs.Common.{◌≢◌, ◌<◌, ◌+◌, ℕ}
use Rattle.host_departments.specs.Index.{at_place}
use Rattle.host_departments.specs.Kept.{rows_in}
use Rattle.host_departments.specs.Rows.{Keeps}
use Rattle.host_departments.proofs.index.indexed_cell.Given as goal

abbrev pub invariant-loop-step : goal.invariant-loop-step
invariant-loop-step l = record { passed : (k e : ℕ) → Keeps (rows_in l.room) k l.job → e < l.step → at_place l.index l.job e ≢ k + 1 }
