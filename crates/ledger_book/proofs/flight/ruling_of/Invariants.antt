use Rattle.std.proofs.Common.{◌≡◌, take, reverse}
use Rattle.ledger_terms.specs.InFlight.{ruling_of}
use Rattle.ledger_book.proofs.flight.ruling_of.Given as goal

abbrev pub invariant-loop-commit : goal.invariant-loop-commit
invariant-loop-commit l = l.found ≡ ruling_of l.device l.number (reverse (take l.commit-index l.commits))
