use Rattle.std.proofs.Common.{take}
use Rattle.std.specs.Prelude.{All, IfSome}
use Rattle.centre_ledger.specs.Books.{IsOwned}
use Rattle.centre_ledger.proofs.accounts.are_owned.Given as goal

abbrev pub invariant-loop-slot : goal.invariant-loop-slot
invariant-loop-slot l = All (λ o. IfSome o (IsOwned l.customers)) (take l.slot-index l.devices)
