use Rattle.std.proofs.Common.{◌≡◌, length, arith}
use Rattle.host_jobs.specs.declared.sizes.TheConstants.{HOST_CELLS}
use Rattle.trace_host.proofs.Blank.{blank_is}
use Rattle.trace_host.proofs.record.no_cells.Goals as goal

pub returns : goal.returns
returns c =
    let i = c.loop-cell.invariant in
    let long : length c.loop-cell.cells.items ≡ HOST_CELLS = omega arith in
    blank_is c.loop-cell.cells.items long (λ k lt. i.blank k (omega (arith, long, lt)))
