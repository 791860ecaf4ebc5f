use Rattle.std.proofs.Common.{◌≡◌, ◌≤◌, take, reverse}
use Rattle.ledger_terms.specs.Sums.{pieces}
use Rattle.ledger_book.proofs.totals.pieces.Given as goal

abbrev pub invariant-loop-commit : goal.invariant-loop-commit
invariant-loop-commit l = (l.count ≡ pieces l.device (reverse (take l.commit-index l.commits))) × (l.count ≤ l.commit-index)
