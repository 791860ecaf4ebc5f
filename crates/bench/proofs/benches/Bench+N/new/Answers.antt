use Rattle.std.proofs.Common.{[], None, suc, replicate, true, false, ◌≡◌, length, refl, arith, subst, sym, ◌∙◌}
use Rattle.bench_base.specs.declared.{words.Node.TheVariants.Device, words.Node.TheVariants.Centre, words.Node.TheVariants.Host, words.Node.TheVariants.Verifier, sizes.TheConstants.RECORD_BYTES, sizes.TheConstants.SLOTS, sizes.TheConstants.DEVICE_BYTES, sizes.TheConstants.ROW_BYTES, sizes.TheConstants.CENTRE_CELLS, sizes.TheConstants.CENTRE_BYTES, sizes.TheConstants.BLOCK_BYTES, sizes.TheConstants.VERIFIER_CELLS, sizes.TheConstants.VERIFIER_BYTES}
use Rattle.nv_model.specs.contracts.fused.FusedNv.TheImpl.{ghosts}
use Rattle.nv_model.specs.Fuses.{inside}
use Rattle.psd_device.specs.Knows.{shown_as}
use Rattle.centre_protocol.specs.Payloads as centre
use Rattle.host_jobs.specs.declared.sizes.TheConstants.{JOB_BYTES, HOST_CELLS, HOST_BYTES}
use Rattle.host_node.specs.Payloads as host
use Rattle.verifier.specs.Payload as verifier
use Rattle.verifier.proofs.LawActs.{follows}
use Rattle.bench_abstraction.specs.Centre.{seen_in}
use Rattle.host_jobs.specs.Records as jobs
use Rattle.verifier.specs.Records as scans
use Rattle.bench.specs.Places.{IsDeviceOver}
use Rattle.bench.proofs.Making.{Moved, moved_start, moved_more, moved_some, moved_done, moved_from, moved_none, pairs_as, pairs_length}
use Rattle.row_node.proofs.Blank.{blank_shown, zeros_show}
use Rattle.bench.proofs.Blank.{blank_stand}
use Rattle.bench.proofs.BlankCentre.{centre_nothing, centre_sound}
use Rattle.host_jobs.proofs.Seeing as host_seeing
use Rattle.bench.proofs.BlankHost.{host_sound}
use Rattle.bench.proofs.BlankVerifier.{verifier_sound}
use Rattle.bench.proofs.Over.{over_stands}
use Rattle.bench.proofs.benches.Bench+N.new.Goals as goal

pub loop-init : goal.loop-init
loop-init g c = record {
  few = omega arith;
  moved = subst (λ made. Moved (λ nv s. IsDeviceOver {h = g.N.Nv} {g = ghosts g.row.N g.N.Nv g.N.Nv-dict} nv s) 0 c.args.stores.devices.items c.args.stores.devices.items made) (sym c.in-Ok-with_capacity.ensures.items) (moved_start (λ nv s. IsDeviceOver {h = g.N.Nv} {g = ghosts g.row.N g.N.Nv g.N.Nv-dict} nv s) c.args.stores.devices.items);
  room = c.in-Ok-with_capacity.ensures.capacity;
  spare = refl;
}

pub device_over-requires : goal.device_over-requires
device_over-requires g c = record {
  fresh = c.requires.fresh (Device (suc (length c.pop.new.self.items))) c.in-Some.nv (moved_from (λ nv s. IsDeviceOver {h = g.N.Nv} {g = ghosts g.row.N g.N.Nv g.N.Nv-dict} nv s) c.loop.counter c.args.stores.devices.items c.loop.spare.items c.pop.new.self.items c.loop.devices.items c.in-Some.nv c.loop.invariant.moved c.in-Some.ensures.items);
}

pub rows_over-requires : goal.rows_over-requires
rows_over-requires g c = record { fresh = c.requires.fresh Centre c.args.stores.centre refl }

pub rows_over-requires-2 : goal.rows_over-requires-2
rows_over-requires-2 g c = record { fresh = c.requires.fresh Host c.args.stores.host refl }

pub rows_over-requires-3 : goal.rows_over-requires-3
rows_over-requires-3 g c = record { fresh = c.requires.fresh Verifier c.args.stores.verifier refl }

pub unreachable-requires-in-None : goal.unreachable-requires-in-None
unreachable-requires-in-None g c =
    let some = moved_some (λ nv s. IsDeviceOver {h = g.N.Nv} {g = ghosts g.row.N g.N.Nv g.N.Nv-dict} nv s) c.loop.counter c.args.stores.devices.items c.loop.spare.items c.loop.devices.items c.loop.invariant.moved (omega (arith, c.loop-test.true, c.requires.eight)) in
    let wrong : false ≡ true = c.in-None.ensures.variant.1 (omega (arith, some, c.loop.spare.ok.0)) in
    cc

pub loop-preserved : goal.loop-preserved
loop-preserved g c = record {
  few = omega (arith, c.loop-test.true);
  moved = moved_more (λ nv s. IsDeviceOver {h = g.N.Nv} {g = ghosts g.row.N g.N.Nv g.N.Nv-dict} nv s) c.loop.counter c.args.stores.devices.items c.loop.spare.items c.pop.new.self.items c.loop.devices.items c.push.new.self.items c.in-Some.nv c.device_over.result c.loop.invariant.moved c.in-Some.ensures.items c.in-Ok-push.ensures.items c.device_over.ensures.over;
  room = omega (arith, c.loop.invariant.room, c.in-Ok-push.ensures.capacity);
  spare = c.in-Some.ensures.capacity ∙ c.loop.invariant.spare;
}

pub invariant_of-result : goal.invariant_of-result
invariant_of-result g c = record {
  room = c.in-Ok-with_capacity-2.ensures.capacity;
  roomy = omega (arith, c.loop.invariant.spare, c.requires.eight, c.args.stores.devices.ok.0, c.args.stores.devices.ok.1);
  empty = moved_none (λ nv s. IsDeviceOver {h = g.N.Nv} {g = ghosts g.row.N g.N.Nv g.N.Nv-dict} nv s) c.loop.counter c.args.stores.devices.items c.loop.spare.items c.loop.devices.items c.loop.invariant.moved (omega (arith, c.loop-test.false, c.loop.invariant.few, c.requires.eight));
}

pub returns-clause-over : goal.returns-clause-over
returns-clause-over g c = record {
  devices = moved_done (λ nv s. IsDeviceOver {h = g.N.Nv} {g = ghosts g.row.N g.N.Nv g.N.Nv-dict} nv s) c.loop.counter c.args.stores.devices.items c.loop.spare.items c.loop.devices.items c.reverse.new.self.items c.loop.invariant.moved (omega (arith, c.loop-test.false, c.loop.invariant.few, c.requires.eight)) c.reverse.ensures.items;
  centre = c.rows_over.ensures.over;
  host = c.rows_over-2.ensures.over;
  verifier = c.rows_over-3.ensures.over;
}

pub returns-clause-ready : goal.returns-clause-ready
returns-clause-ready g c = record {
  eight = pairs_length (λ nv s. IsDeviceOver {h = g.N.Nv} {g = ghosts g.row.N g.N.Nv g.N.Nv-dict} nv s) c.args.stores.devices.items c.reverse.new.self.items (returns-clause-over g c).devices ∙ c.requires.eight;
}

pub returns-clause-stands : goal.returns-clause-stands
returns-clause-stands g c L stands =
    let over = returns-clause-over g c in
    over_stands _ inside (λ f. refl) (λ f. refl) (λ t. t) _ _ L refl c.in-Ok-with_capacity-2.ensures.items refl
    (record {
      devices = pairs_as _ _ (λ store s one. record { off = one.off; within = one.within }) _ _ over.devices;
      centre = record { off = over.centre.off; within = over.centre.within };
      host = record { off = over.host.off; within = over.host.within };
      verifier = record { off = over.verifier.off; within = over.verifier.within };
    }) stands

pub returns-clause-blank : goal.returns-clause-blank
returns-clause-blank g c blank =
    returns-clause-stands g c [] (blank_stand _ _
    (λ d. record {
      size = refl;
      sound = record { few = omega arith; blank = (λ e. refl, λ e. refl); own = tt };
      shown = shown_as 0 None None (replicate DEVICE_BYTES 0) refl (zeros_show RECORD_BYTES SLOTS 1 DEVICE_BYTES);
    })
    (record { size = refl; sound = centre_sound; shown = blank_shown (seen_in []) centre_nothing ROW_BYTES CENTRE_CELLS CENTRE_BYTES centre.IsPayloadOf })
    (record { size = refl; sound = host_sound; shown = blank_shown (jobs.seen_after []) host_seeing.blank JOB_BYTES HOST_CELLS HOST_BYTES host.IsPayloadOf })
    (record { size = refl; sound = verifier_sound; shown = blank_shown (scans.seen_after []) follows.none BLOCK_BYTES VERIFIER_CELLS VERIFIER_BYTES verifier.IsPayloadOf })
    blank)
