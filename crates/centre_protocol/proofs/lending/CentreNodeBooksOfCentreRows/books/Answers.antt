use Rattle.row_node.specs.NodeView.{held_in}
use Rattle.centre_protocol.proofs.Seen.{books_lent}
use Rattle.centre_protocol.proofs.lending.CentreNodeBooksOfCentreRows.books.Goals as goal

pub returns-clause-rows : goal.returns-clause-rows
returns-clause-rows g c =
    let k = c.args.self.now in
    books_lent c.rows.result.now k.rows (held_in k) c.rows.ensures k.filled
