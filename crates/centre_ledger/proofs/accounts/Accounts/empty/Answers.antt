use Rattle.std.proofs.Common.{sym, subst}
use Rattle.centre_ledger.specs.Books.{IsDerived, no_rows}
use Rattle.centre_ledger.proofs.Kept.{none_kept}
use Rattle.centre_ledger.proofs.accounts.Accounts.empty.Goals as goal

pub invariant_of-result : goal.invariant_of-result
invariant_of-result c = subst (IsDerived no_rows) (sym c.none.ensures) none_kept

pub returns-clause-sound : goal.returns-clause-sound
returns-clause-sound c = none_kept.sound
