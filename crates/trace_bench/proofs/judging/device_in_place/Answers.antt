use Rattle.std.proofs.Common.{◌-◌, ◌<◌, sym, refl, arith}
use Rattle.std.proofs.lemmas.Option.{slice_get_read}
use Rattle.trace_bench.proofs.Seen.{set_settled}
use Rattle.trace_bench.proofs.judging.device_in_place.Goals as goal

pub judge_device-requires : goal.judge_device-requires
judge_device-requires g c =
    let place = c.get.result - 1 in
    let inside : place < 8 = omega (arith, c.get.ensures.range.0, c.get.ensures.range.1) in
    record { settled = c.requires.settled place c.index_mut.result.now (slice_get_read c.args.devices.now.items 8 place c.index_mut.result.now (sym c.requires.eight) inside c.index_mut.ensures.value) }

pub returns-clause-settled : goal.returns-clause-settled
returns-clause-settled g c =
    let place = c.get.result - 1 in
    let inside : place < 8 = omega (arith, c.get.ensures.range.0, c.get.ensures.range.1) in
    set_settled c.args.devices.now.items place c.judge_device.new.traced (omega (arith, c.requires.eight, inside)) c.requires.settled c.judge_device.ensures.settled

pub returns-clause-judged : goal.returns-clause-judged
returns-clause-judged g c =
    let place = c.get.result - 1 in
    let inside : place < 8 = omega (arith, c.get.ensures.range.0, c.get.ensures.range.1) in
    record {
      place = place;
      is_device = omega (arith, c.get.ensures.range.0, c.get.ensures.value);
      before = c.index_mut.result.now;
      now = c.judge_device.new.traced;
      was = slice_get_read c.args.devices.now.items 8 place c.index_mut.result.now (sym c.requires.eight) inside c.index_mut.ensures.value;
      set = refl;
      by_ledger = c.judge_device.ensures.by_ledger;
    }
