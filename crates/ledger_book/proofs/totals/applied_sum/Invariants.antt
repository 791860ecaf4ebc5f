use Rattle.std.proofs.Common.{◌≡◌, ◌≤◌, ◌*◌, ◌^◌, take, reverse}
use Rattle.ledger_terms.specs.Sums.{applied_sum}
use Rattle.ledger_book.specs.Sides.{amount_of}
use Rattle.ledger_book.proofs.totals.applied_sum.Given as goal

abbrev pub invariant-loop-i : goal.invariant-loop-i
invariant-loop-i l = (l.sum ≡ applied_sum (amount_of l.side) l.device (reverse (take l.i l.commits))) × (l.sum ≤ l.i * 2 ^ 64)
