use Rattle.std.proofs.Common.{◌≡◌, ◌≤◌, ◌*◌, ◌^◌}
use Rattle.spoil_claims.specs.View.{rows_of}
use Rattle.spoil_claims.proofs.Keeping.{summed_to}
use Rattle.spoil_claims.proofs.desk.Desk.credits.Given as goal

abbrev pub invariant-loop-cell : goal.invariant-loop-cell
invariant-loop-cell g l = record { summed : l.sum ≡ summed_to (rows_of l.self) l.customer l.cell; few : l.sum ≤ l.cell * 2 ^ 32 }
