use Rattle.std.proofs.Common.{◌≡◌, take, reverse}
use Rattle.ledger_terms.specs.Centres.{registered}
use Rattle.ledger_book.proofs.centres.registered.Given as goal

abbrev pub invariant-loop-commit : goal.invariant-loop-commit
invariant-loop-commit l = l.found ≡ registered l.device (reverse (take l.commit-index l.commits))
