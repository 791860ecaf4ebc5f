use Rattle.std.proofs.Common.{None, sym, arith}
use Rattle.node_acts.specs.RowList.{row_at}
use Rattle.node_acts.specs.RowLaws.{listed_is}
use Rattle.centre_ledger.specs.Seen.{device_in}
use Rattle.trace_centre.proofs.rows.devices_in.Goals as goal

pub returns : goal.returns
returns c =
    sym (listed_is 8 (λ k. device_in (row_at c.args.cells.now k)) None c.loop-place.rows c.loop-place.invariant.long
    (λ k lt. c.loop-place.invariant.read k (omega (arith, lt, c.loop-place-test.false))))
