use Rattle.psd_state.proofs.Parted.{one_reading}
use Rattle.payload_rows.proofs.device.reads_as_record.Goals as goal

pub returns-in-Some-clause-no : goal.returns-in-Some-clause-no
returns-in-Some-clause-no c is reads =
    c.same_record.ensures.no is (one_reading c.args.payload.now c.in-Some.read c.args.kept.now c.in-Some.ensures.found.1 reads)
