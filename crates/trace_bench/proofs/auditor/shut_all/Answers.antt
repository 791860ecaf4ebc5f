use Rattle.std.proofs.Common.{refl, arith}
use Rattle.trace_bench.proofs.Shutting.{shut_more, all_shut}
use Rattle.trace_bench.proofs.auditor.shut_all.Goals as goal

pub loop-place-init : goal.loop-place-init
loop-place-init c = record { few = omega arith; shut = refl }

pub loop-place-preserved : goal.loop-place-preserved
loop-place-preserved c =
    let ok = c.args.devices.now.ok in
    record {
      few = omega (arith, c.loop-place-test.true, c.len-place-end.ensures, ok.0);
      shut = shut_more c.loop-place.place c.args.devices.now.items c.loop-place.devices.items c.shut_at.new.devices.items c.loop-place.invariant.shut c.shut_at.ensures;
    }

pub returns : goal.returns
returns c =
    let ok = c.args.devices.now.ok in
    all_shut c.loop-place.place c.args.devices.now.items c.loop-place.devices.items
    (omega (arith, c.loop-place-test.false, c.loop-place.invariant.few, c.len-place-end.ensures, ok.0)) c.loop-place.invariant.shut
