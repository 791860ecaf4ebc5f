use Rattle.std.proofs.Common.{arith}
use Rattle.psd_device.specs.contracts.kind.DeviceNodeNode.TheImpl.{ghosts}
use Rattle.bench.proofs.Begun.{stopping_none, stopping_more, all_stopped}
use Rattle.bench.proofs.places.stop_all.Goals as goal

pub loop-place-init : goal.loop-place-init
loop-place-init g c = record {
  few = omega arith;
  stopping = stopping_none (ghosts g.row.M g.M.Nv g.M.Nv-dict) g.M.Nv c.args.devices.now.items;
}

pub loop-place-preserved : goal.loop-place-preserved
loop-place-preserved g c =
    let ok = c.args.devices.now.ok in
    record {
      few = omega (arith, c.loop-place-test.true, c.len-place-end.ensures, ok.0);
      stopping = stopping_more (ghosts g.row.M g.M.Nv g.M.Nv-dict) g.M.Nv c.loop-place.place c.args.devices.now.items c.loop-place.devices.items
          c.stop_at.new.devices.items (omega (arith, c.loop-place-test.true, c.len-place-end.ensures, ok.0)) c.loop-place.invariant.stopping c.stop_at.ensures.stopped;
    }

pub returns-clause-stopped : goal.returns-clause-stopped
returns-clause-stopped g c =
    let ok = c.args.devices.now.ok in
    all_stopped (ghosts g.row.M g.M.Nv g.M.Nv-dict) g.M.Nv c.loop-place.place c.args.devices.now.items c.loop-place.devices.items
    (omega (arith, c.loop-place-test.false, c.loop-place.invariant.few, c.len-place-end.ensures, ok.0)) c.loop-place.invariant.stopping
