use Rattle.std.proofs.Common.{refl}
use Rattle.std.proofs.lemmas.Option.{slice_get_read}
use Rattle.bench.proofs.places.stop_at.Goals as goal

pub returns : goal.returns
returns g c =
    let devices = c.args.devices.now.items in
    let did = c.stop-was_on.ensures in
    record {
      stopped = record {
        before = c.index_mut.result.now;
        now = c.stop-was_on.new.node;
        was = slice_get_read devices _ c.args.place c.index_mut.result.now refl c.requires.inside c.index_mut.ensures.value;
        set = refl;
        stops = record { off = did.off; storage = did.storage; stands = did.stands };
      };
    }
