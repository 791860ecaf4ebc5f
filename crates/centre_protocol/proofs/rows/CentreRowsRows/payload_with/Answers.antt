use Rattle.centre_protocol.specs.Cells.{is_in}
use Rattle.centre_protocol.proofs.rows.CentreRowsRows.payload_with.Goals as goal

pub returns-clause-reads : goal.returns-clause-reads
returns-clause-reads c = (is_in c.args.row.now c.requires.has, ∣ c.payload_of.ensures.reads ∣₁)
