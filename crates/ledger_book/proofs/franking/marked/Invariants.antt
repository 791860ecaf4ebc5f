use Rattle.std.proofs.Common.{◌≡◌, take, reverse}
use Rattle.ledger_terms.specs.Franking.{marked}
use Rattle.ledger_book.proofs.franking.marked.Given as goal

abbrev pub invariant-loop-i : goal.invariant-loop-i
invariant-loop-i l = l.found ≡ marked l.device l.piece (reverse (take l.i l.commits))
