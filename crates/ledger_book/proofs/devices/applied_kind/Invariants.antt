use Rattle.std.proofs.Common.{◌≡◌, take, reverse}
use Rattle.ledger_terms.specs.Devices.{applied_kind}
use Rattle.ledger_book.proofs.devices.applied_kind.Given as goal

abbrev pub invariant-loop-i : goal.invariant-loop-i
invariant-loop-i l = l.found ≡ applied_kind l.kind l.device (reverse (take l.i l.commits))
