use Rattle.std.proofs.Common.{◌≡◌, ◌≤◌, ◌*◌, ◌^◌, take, reverse}
use Rattle.ledger_terms.specs.Sums.{ascending}
use Rattle.ledger_book.proofs.totals.ascending.Given as goal

abbrev pub invariant-loop-commit : goal.invariant-loop-commit
invariant-loop-commit l = (l.sum ≡ ascending l.device (reverse (take l.commit-index l.commits))) × (l.sum ≤ l.commit-index * 2 ^ 32)
