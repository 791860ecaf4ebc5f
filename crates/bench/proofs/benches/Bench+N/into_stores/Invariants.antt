use Rattle.std.proofs.Common.{◌≤◌}
use Rattle.std.specs.Vec.{vec_capacity}
use Rattle.nv_model.specs.contracts.fused.FusedNv.TheImpl.{ghosts}
use Rattle.bench.specs.Places.{IsInDevice}
use Rattle.bench.proofs.Making.{Moved}
use Rattle.bench.proofs.benches.Bench+N.into_stores.Given as goal

abbrev pub invariant-loop : goal.invariant-loop
invariant-loop g l = record {
  few : l.counter ≤ 8;
  moved : Moved (λ s nv. IsInDevice {h = g.N.Nv} {g = ghosts g.row.N g.N.Nv g.N.Nv-dict} s nv) l.counter l.fn.self.devices.items l.devices.items l.stores.items;
  room : 8 ≤ vec_capacity l.stores;
}
