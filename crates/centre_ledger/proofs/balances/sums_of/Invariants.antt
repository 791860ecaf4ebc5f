use Rattle.std.proofs.Common.{◌≡◌, ◌*◌, ◌-◌, ◌^◌, ◌≤◌, take, sum_by}
use Rattle.centre_ledger.specs.Rows.{buys_in, returns_in}
use Rattle.centre_ledger.proofs.balances.sums_of.Given as goal

abbrev pub invariant-loop-slot : goal.invariant-loop-slot
invariant-loop-slot l = record {
  bought : l.bought ≡ sum_by (buys_in l.customer) (take l.slot-index l.devices);
  returned : l.returned ≡ sum_by (returns_in l.customer) (take l.slot-index l.devices);
  small : l.bought ≤ l.slot-index * (2 ^ 64 - 1);
  covered : l.returned ≤ l.bought;
}
