use Rattle.std.proofs.Common.{◌≡◌, take, length}
use Rattle.std.specs.Prelude.{All, IfSome}
use Rattle.centre_ledger.specs.Books.{IsCovered, balances_by}
use Rattle.centre_ledger.proofs.balances.Balances.of.Given as goal

abbrev pub invariant-loop-place : goal.invariant-loop-place
invariant-loop-place l = record {
  size : length l.left ≡ 64;
  left : take l.place l.left ≡ balances_by l.devices (take l.place l.customers);
  covered : All (λ o. IfSome o (IsCovered l.devices)) (take l.place l.customers);
}
