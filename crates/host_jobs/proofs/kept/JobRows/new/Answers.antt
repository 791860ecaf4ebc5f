use Rattle.std.proofs.Common.{◌≡◌, length, None, sym, arith}
use Rattle.host_jobs.specs.declared.sizes.TheConstants.{HOST_CELLS}
use Rattle.node_acts.specs.RowLaws.{listed_is}
use Rattle.host_jobs.proofs.kept.JobRows.new.Goals as goal

pub returns : goal.returns
returns c =
    let i = c.loop-cell.invariant in
    let long : length c.loop-cell.rows.items ≡ HOST_CELLS = omega arith in
    sym (listed_is HOST_CELLS (λ k. None) None c.loop-cell.rows.items long (λ k lt. i.blank k (omega (arith, long, lt))))
