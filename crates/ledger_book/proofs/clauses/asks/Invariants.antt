use Rattle.std.proofs.Common.{◌≡◌, ◌≤◌, take, reverse}
use Rattle.ledger_terms.specs.Lawful.{asks}
use Rattle.ledger_book.proofs.clauses.asks.Given as goal

abbrev pub invariant-loop-commit : goal.invariant-loop-commit
invariant-loop-commit l = (l.count ≡ asks l.device (reverse (take l.commit-index l.commits))) × (l.count ≤ l.commit-index)
