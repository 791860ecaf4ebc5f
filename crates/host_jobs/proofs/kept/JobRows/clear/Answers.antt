use Rattle.std.proofs.Common.{None, sym, arith}
use Rattle.host_jobs.specs.declared.sizes.TheConstants.{HOST_CELLS}
use Rattle.node_acts.specs.RowLaws.{listed_is}
use Rattle.host_jobs.proofs.kept.JobRows.clear.Goals as goal

pub returns : goal.returns
returns c =
    let i = c.loop-cell.invariant in
    sym (listed_is HOST_CELLS (λ k. None) None c.loop-cell.self-inside.rows.items i.long (λ k lt. i.blank k (omega (arith, i.long, lt))))
