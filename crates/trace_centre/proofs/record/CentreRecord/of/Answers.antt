use Rattle.trace_centre.proofs.OfCells.{are_placed}
use Rattle.trace_centre.proofs.record.CentreRecord.of.Goals as goal

pub of-requires : goal.of-requires
of-requires c = record { placed = are_placed c.args.cells c.requires.rows c.devices_in.result c.customers_in.result c.devices_in.ensures c.customers_in.ensures }
