use Rattle.std.proofs.Common.{◌≡◌, take, reverse}
use Rattle.ledger_terms.specs.Lawful.{held_piece}
use Rattle.ledger_book.proofs.jobs.held_piece.Given as goal

abbrev pub invariant-loop-i : goal.invariant-loop-i
invariant-loop-i l = l.found ≡ held_piece l.device l.piece (reverse (take l.i l.commits))
