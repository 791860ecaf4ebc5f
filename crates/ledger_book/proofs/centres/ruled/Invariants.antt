use Rattle.std.proofs.Common.{◌≡◌, take, reverse}
use Rattle.ledger_terms.specs.Centres.{ruled}
use Rattle.ledger_book.proofs.centres.ruled.Given as goal

abbrev pub invariant-loop-commit : goal.invariant-loop-commit
invariant-loop-commit l = l.greatest ≡ ruled l.device (reverse (take l.commit-index l.commits))
