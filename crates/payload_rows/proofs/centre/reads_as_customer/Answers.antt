use Rattle.centre_ledger.proofs.CustomerBytes.{one_customer_row}
use Rattle.payload_rows.proofs.centre.reads_as_customer.Goals as goal

pub returns-in-Some-clause-no : goal.returns-in-Some-clause-no
returns-in-Some-clause-no c is reads =
    c.same_customer.ensures.no is (one_customer_row c.args.payload.now c.in-Some.found c.args.due.now c.in-Some.ensures.found.1 reads)
