use Rattle.std.proofs.Common.{◌≡◌, take, reverse}
use Rattle.ledger_terms.specs.Devices.{key_of}
use Rattle.ledger_book.proofs.devices.key_of.Given as goal

abbrev pub invariant-loop-commit : goal.invariant-loop-commit
invariant-loop-commit l = l.found ≡ key_of l.device (reverse (take l.commit-index l.commits))
