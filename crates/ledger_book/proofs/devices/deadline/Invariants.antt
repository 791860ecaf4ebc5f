use Rattle.std.proofs.Common.{◌≡◌, take, reverse}
use Rattle.ledger_terms.specs.Devices.{deadline}
use Rattle.ledger_book.proofs.devices.deadline.Given as goal

abbrev pub invariant-loop-i : goal.invariant-loop-i
invariant-loop-i l = l.day ≡ deadline l.device (reverse (take l.i l.commits))
