use Rattle.std.proofs.Common.{true, false, ◌≡◌, refl, sym, subst, arith}
use Rattle.nv_model.specs.contracts.fused.FusedNv.TheImpl.{ghosts}
use Rattle.nv_model.specs.Fuses.{inside}
use Rattle.bench.specs.Places.{IsInDevice}
use Rattle.bench.proofs.Making.{Moved, empty_list, moved_start, moved_more, moved_some, moved_done}
use Rattle.bench.proofs.Over.{inside_stands}
use Rattle.bench.proofs.benches.Bench+N.into_stores.Goals as goal

pub unreachable-requires-in-None : goal.unreachable-requires-in-None
unreachable-requires-in-None g c =
    let some = moved_some (λ s nv. IsInDevice {h = g.N.Nv} {g = ghosts g.row.N g.N.Nv g.N.Nv-dict} s nv) c.loop.counter c.args.self.devices.items c.loop.devices.items c.loop.stores.items c.loop.invariant.moved (omega (arith, c.loop-test.true, c.requires.ready.eight)) in
    let wrong : false ≡ true = c.in-None.ensures.variant.1 (omega (arith, some, c.loop.devices.ok.0)) in
    cc

pub loop-init : goal.loop-init
loop-init g c =
    record {
      few = omega arith;
      moved = subst (λ made. Moved (λ s nv. IsInDevice {h = g.N.Nv} {g = ghosts g.row.N g.N.Nv g.N.Nv-dict} s nv) 0 c.args.self.devices.items c.args.self.devices.items made)
          (sym (empty_list c.args.self.spare.items c.args.self.empty)) (moved_start (λ s nv. IsInDevice {h = g.N.Nv} {g = ghosts g.row.N g.N.Nv g.N.Nv-dict} s nv) c.args.self.devices.items);
      room = c.args.self.roomy;
    }

pub loop-preserved : goal.loop-preserved
loop-preserved g c = record {
  few = omega (arith, c.loop-test.true);
  moved = moved_more (λ s nv. IsInDevice {h = g.N.Nv} {g = ghosts g.row.N g.N.Nv g.N.Nv-dict} s nv) c.loop.counter c.args.self.devices.items c.loop.devices.items c.pop.new.self.items c.loop.stores.items c.push.new.self.items c.in-Some.device c.device_storage.result c.loop.invariant.moved c.in-Some.ensures.items c.in-Ok.ensures.items c.device_storage.ensures.inside;
  room = omega (arith, c.loop.invariant.room, c.in-Ok.ensures.capacity);
}

pub returns-clause-inside : goal.returns-clause-inside
returns-clause-inside g c = record {
  devices = moved_done (λ s nv. IsInDevice {h = g.N.Nv} {g = ghosts g.row.N g.N.Nv g.N.Nv-dict} s nv) c.loop.counter c.args.self.devices.items c.loop.devices.items c.loop.stores.items c.reverse.new.self.items c.loop.invariant.moved (omega (arith, c.loop-test.false, c.loop.invariant.few, c.requires.ready.eight)) c.reverse.ensures.items;
  centre = c.rows_storage.ensures.inside;
  host = c.rows_storage-2.ensures.inside;
  verifier = c.rows_storage-3.ensures.inside;
}

pub returns-clause-stands : goal.returns-clause-stands
returns-clause-stands g c L stands =
    let within = returns-clause-inside g c in
    inside_stands _ inside (λ f. refl) (λ f. refl) (λ t. t) _ _ L
    (record { devices = within.devices; centre = within.centre; host = within.host; verifier = within.verifier }) stands
