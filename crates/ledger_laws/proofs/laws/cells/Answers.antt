use Rattle.ledger_laws.proofs.Counts as lies
use Rattle.ledger_laws.proofs.laws.cells.Goals as goal

pub returns-clause-places : goal.returns-clause-places
returns-clause-places c = lies.places_add_up

pub returns-clause-cells : goal.returns-clause-cells
returns-clause-cells c = lies.cells_add_up
