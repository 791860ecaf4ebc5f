use Rattle.ledger_book.proofs.Steps.{made, asked, applied, debited}
use Rattle.ledger_book.proofs.laws.device_steps.Goals as goal

pub returns : goal.returns
returns c = record { made = made; asked = asked; applied = applied; debited = debited }
