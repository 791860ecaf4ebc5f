use Rattle.std.proofs.Common.{◌≡◌, ◌≤◌, ◌*◌, ◌^◌, take, reverse}
use Rattle.ledger_terms.specs.Sums.{ruled_sum}
use Rattle.ledger_book.specs.Sides.{amount_of}
use Rattle.ledger_book.proofs.totals.ruled_sum.Given as goal

abbrev pub invariant-loop-commit : goal.invariant-loop-commit
invariant-loop-commit l = (l.sum ≡ ruled_sum (amount_of l.side) l.device (reverse (take l.commit-index l.commits))) × (l.sum ≤ l.commit-index * 2 ^ 64)
