use Rattle.std.proofs.Common.{◌≡◌, take, reverse}
use Rattle.ledger_terms.specs.Lawful.{debited_since}
use Rattle.ledger_book.proofs.clauses.debited_since.Given as goal

abbrev pub invariant-loop-commit : goal.invariant-loop-commit
invariant-loop-commit l = l.since ≡ debited_since l.device l.number (reverse (take l.commit-index l.commits))
