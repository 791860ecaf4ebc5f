use Rattle.std.proofs.Common.{◌≡◌, ◌≤◌}
use Rattle.spoil_claims.specs.View.{rows_of}
use Rattle.spoil_claims.proofs.Keeping.{counted_to}
use Rattle.spoil_claims.proofs.desk.Desk.last.Given as goal

abbrev pub invariant-loop-cell : goal.invariant-loop-cell
invariant-loop-cell g l = record { counted : l.last ≡ counted_to (rows_of l.self) l.cell; few : l.last ≤ l.cell }
