use Rattle.std.proofs.Common.{◌-◌, ◌<◌, sym, refl, arith}
use Rattle.std.proofs.lemmas.Option.{slice_get_read}
use Rattle.bench.specs.Calls.{device_call_event}
use Rattle.bench.proofs.Called.{told_event}
use Rattle.bench.proofs.device_turns.device_turn.Goals as goal

pub returns : goal.returns
returns g c =
    let devices = c.args.devices.now.items in
    let place = c.get.result - 1 in
    let inside : place < 8 = omega (arith, c.get.ensures.range.0, c.get.ensures.range.1) in
    let came = told_event _ _ _ _ _ _ _ (device_call_event c.args.device) (λ turn. g.T.Tell.IsOf c.node_turn.result turn) _ _ _ _ c.args.asked.now c.node_turn.ensures.did in
    record {
      did = (
        came.0,
        came.1,
        record {
          place = place;
          is_device = omega (arith, c.get.ensures.range.0, c.get.ensures.value);
          before = c.index_mut.result.now;
          now = c.node_turn.new.place;
          was = slice_get_read devices 8 place c.index_mut.result.now (sym c.requires.eight) inside c.index_mut.ensures.value;
          set = refl;
          did = came.2;
          prints = came.3;
        },
      );
    }
