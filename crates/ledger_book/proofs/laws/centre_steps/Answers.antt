use Rattle.ledger_book.proofs.Steps.{registered, ruled, settled, other_registered, other_ruled, other_settled}
use Rattle.ledger_book.proofs.laws.centre_steps.Goals as goal

pub returns : goal.returns
returns c = record { registered = registered; ruled = ruled; settled = settled; other_registered = other_registered; other_ruled = other_ruled; other_settled = other_settled }
