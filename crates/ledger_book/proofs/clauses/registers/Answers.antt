use Rattle.std.proofs.Common.{refl}
use Rattle.ledger_book.proofs.clauses.registers.Goals as goal

pub returns-then-after_applied : goal.returns-then-after_applied
returns-then-after_applied c = (λ h. (c.if-after_applied.ensures.0 refl, c.accounts.ensures.0 h), λ k. c.accounts.ensures.1 k.1)
