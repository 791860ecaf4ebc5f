use Rattle.std.proofs.Common.{◌≡◌, length}
use Rattle.nv_store.specs.RoomView.{kept_in}
use Rattle.centre_protocol.specs.Boots.{CustomersRead}
use Rattle.centre_protocol.proofs.boot.customers_in.Given as goal

abbrev pub invariant-loop-place : goal.invariant-loop-place
invariant-loop-place l = record { read : CustomersRead (kept_in l.room) l.place l.rows; long : length l.rows ≡ 64 }
