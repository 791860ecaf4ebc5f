use Rattle.ledger_book.proofs.Growing.{counted_grown}
use Rattle.ledger_book.proofs.laws.growth.Goals as goal

pub returns : goal.returns
returns c = counted_grown
