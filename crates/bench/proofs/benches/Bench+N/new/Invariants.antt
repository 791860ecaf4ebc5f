use Rattle.std.proofs.Common.{◌≡◌, ◌≤◌}
use Rattle.std.specs.Vec.{vec_capacity}
use Rattle.nv_model.specs.contracts.fused.FusedNv.TheImpl.{ghosts}
use Rattle.bench.specs.Places.{IsDeviceOver}
use Rattle.bench.proofs.Making.{Moved}
use Rattle.bench.proofs.benches.Bench+N.new.Given as goal

abbrev pub invariant-loop : goal.invariant-loop
invariant-loop g l = record {
  few : l.counter ≤ 8;
  moved : Moved (λ nv s. IsDeviceOver {h = g.N.Nv} {g = ghosts g.row.N g.N.Nv g.N.Nv-dict} nv s) l.counter l.fn.stores.devices.items l.spare.items l.devices.items;
  room : 8 ≤ vec_capacity l.devices;
  spare : vec_capacity l.spare ≡ vec_capacity l.initial.spare;
}
