use Rattle.std.proofs.Common.{◌≡◌, take, reverse}
use Rattle.ledger_terms.specs.Requests.{note_of}
use Rattle.ledger_book.proofs.requests.note_of.Given as goal

abbrev pub invariant-loop-commit : goal.invariant-loop-commit
invariant-loop-commit l = l.found ≡ note_of l.device l.number (reverse (take l.commit-index l.commits))
