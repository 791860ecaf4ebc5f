use Rattle.std.proofs.lemmas.Grind.{merely, not_there}
use Rattle.centre_protocol.specs.Payloads.{IsPayloadOf}
use Rattle.node_images.proofs.Shown.{row_held, row_back, row_there}
use Rattle.centre_ledger.specs.declared.rows.Row.TheVariants as row
use Rattle.node_images.proofs.centre.shows_customer.Goals as goal

pub returns-then-not-is_customer_in-clause-no : goal.returns-then-not-is_customer_in-clause-no
returns-then-not-is_customer_in-clause-no c is shown =
    c.is_customer_in.ensures.no c.if-not-is_customer_in.true (row_back 192 (IsPayloadOf c.args.place) c.args.cell.now c.args.count (row.Customer c.args.due.now) shown).row.0

pub returns-then-not-copy_newest-clause-no : goal.returns-then-not-copy_newest-clause-no
returns-then-not-copy_newest-clause-no c is shown =
    let back = row_back 192 (IsPayloadOf c.args.place) c.args.cell.now c.args.count (row.Customer c.args.due.now) shown in
    c.copy_newest.ensures.no c.if-not-copy_newest.true back.bytes back.shows

pub returns-clause-yes : goal.returns-clause-yes
returns-clause-yes c is =
    row_held 192 (IsPayloadOf c.args.place) c.args.cell.now c.args.count (row.Customer c.args.due.now) c.copy_newest.new.payload
    (c.copy_newest.ensures.yes c.if-not-copy_newest.false) (c.is_customer_in.ensures.yes c.if-not-is_customer_in.false, merely (c.reads_as_customer.ensures.yes is))

pub returns-clause-no : goal.returns-clause-no
returns-clause-no c is shown =
    not_there
    (row_there 192 (IsPayloadOf c.args.place) c.args.cell.now c.args.count (row.Customer c.args.due.now) c.copy_newest.new.payload
    (c.copy_newest.ensures.yes c.if-not-copy_newest.false) shown).1 (c.reads_as_customer.ensures.no is)
