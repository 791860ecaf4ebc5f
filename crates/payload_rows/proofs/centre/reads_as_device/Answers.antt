use Rattle.centre_ledger.proofs.OneRow.{one_device_row}
use Rattle.payload_rows.proofs.centre.reads_as_device.Goals as goal

pub returns-in-Some-clause-no : goal.returns-in-Some-clause-no
returns-in-Some-clause-no c is reads =
    c.same_device.ensures.no is (one_device_row c.args.payload.now c.in-Some.found c.args.due.now c.in-Some.ensures.found.1 reads)
