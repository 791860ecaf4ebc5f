use Rattle.std.proofs.Common.{refl}
use Rattle.ledger_book.proofs.clauses.debits.Goals as goal

pub returns-then-next_debit : goal.returns-then-next_debit
returns-then-next_debit c = (λ h. (c.if-next_debit.ensures.0 refl, c.totals.ensures.0 h), λ k. c.totals.ensures.1 k.1)
