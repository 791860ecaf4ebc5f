use Rattle.std.proofs.Common.{◌≤◌, length}
use Rattle.psd_device.specs.contracts.kind.DeviceNodeNode.TheImpl.{ghosts}
use Rattle.bench.proofs.Begun.{Stopping}
use Rattle.bench.proofs.places.stop_all.Given as goal

abbrev pub invariant-loop-place : goal.invariant-loop-place
invariant-loop-place g l = record {
  few : l.place ≤ length l.initial.devices.items;
  stopping : Stopping (ghosts g.row.M g.M.Nv g.M.Nv-dict) g.M.Nv l.place l.initial.devices.items l.devices.items;
}
