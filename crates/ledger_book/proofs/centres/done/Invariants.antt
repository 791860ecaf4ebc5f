use Rattle.std.proofs.Common.{◌≡◌, take, reverse}
use Rattle.ledger_terms.specs.Centres.{done}
use Rattle.ledger_book.proofs.centres.done.Given as goal

abbrev pub invariant-loop-commit : goal.invariant-loop-commit
invariant-loop-commit l = l.greatest ≡ done l.device (reverse (take l.commit-index l.commits))
