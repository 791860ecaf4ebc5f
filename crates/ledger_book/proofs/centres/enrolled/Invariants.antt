use Rattle.std.proofs.Common.{◌≡◌, take, reverse}
use Rattle.ledger_terms.specs.Centres.{enrolled}
use Rattle.ledger_book.proofs.centres.enrolled.Given as goal

abbrev pub invariant-loop-commit : goal.invariant-loop-commit
invariant-loop-commit l = l.found ≡ enrolled l.device (reverse (take l.commit-index l.commits))
