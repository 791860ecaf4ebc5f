use Rattle.std.proofs.Common.{◌≡◌, take, reverse}
use Rattle.ledger_terms.specs.Devices.{applied_of}
use Rattle.ledger_book.proofs.devices.applied_of.Given as goal

abbrev pub invariant-loop-commit : goal.invariant-loop-commit
invariant-loop-commit l = l.found ≡ applied_of l.device l.number (reverse (take l.commit-index l.commits))
