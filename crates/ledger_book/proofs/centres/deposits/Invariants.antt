use Rattle.std.proofs.Common.{◌≡◌, ◌≤◌, ◌*◌, ◌^◌, take, reverse}
use Rattle.ledger_terms.specs.Centres.{deposits}
use Rattle.ledger_book.proofs.centres.deposits.Given as goal

abbrev pub invariant-loop-commit : goal.invariant-loop-commit
invariant-loop-commit l = (l.sum ≡ deposits l.customer (reverse (take l.commit-index l.commits))) × (l.sum ≤ l.commit-index * 2 ^ 32)
