use Rattle.std.proofs.Common.{◌≡◌, ◌≤◌, ◌*◌, ◌^◌, take, reverse}
use Rattle.ledger_terms.specs.InFlight.{ruled_sum_to}
use Rattle.ledger_book.specs.Sides.{amount_of}
use Rattle.ledger_book.proofs.flight.ruled_sum_to.Given as goal

abbrev pub invariant-loop-commit : goal.invariant-loop-commit
invariant-loop-commit l = (l.sum ≡ ruled_sum_to (amount_of l.side) l.device l.limit (reverse (take l.commit-index l.commits))) × (l.sum ≤ l.commit-index * 2 ^ 64)
