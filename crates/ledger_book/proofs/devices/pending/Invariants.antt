use Rattle.std.proofs.Common.{◌≡◌, take, reverse}
use Rattle.ledger_terms.specs.Devices.{pending}
use Rattle.ledger_book.proofs.devices.pending.Given as goal

abbrev pub invariant-loop-commit : goal.invariant-loop-commit
invariant-loop-commit l = l.waiting ≡ pending l.device (reverse (take l.commit-index l.commits))
