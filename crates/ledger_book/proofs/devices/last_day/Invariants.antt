use Rattle.std.proofs.Common.{◌≡◌, take, reverse}
use Rattle.ledger_terms.specs.Devices.{last_day}
use Rattle.ledger_book.proofs.devices.last_day.Given as goal

abbrev pub invariant-loop-commit : goal.invariant-loop-commit
invariant-loop-commit l = l.day ≡ last_day l.device (reverse (take l.commit-index l.commits))
