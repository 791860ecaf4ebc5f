use Rattle.std.proofs.Common.{◌≡◌, ◌≤◌, ◌*◌, ◌^◌}
use Rattle.host_departments.specs.Kept.{rows_in}
use Rattle.host_departments.specs.Rows.{sum_to, postage_at}
use Rattle.host_departments.proofs.kept.spent.Given as goal

abbrev pub invariant-loop-place : goal.invariant-loop-place
invariant-loop-place l = record { summed : l.sum ≡ sum_to l.place (postage_at (rows_in l.room) l.department); few : l.sum ≤ l.place * 2 ^ 32 }
