use Rattle.std.proofs.Common.{arith}
use Rattle.trace_host.proofs.OfCells.{jobs_are}
use Rattle.trace_host.proofs.of_cells.jobs_of.Goals as goal

pub returns : goal.returns
returns c =
    let i = c.loop-cell.invariant in
    jobs_are c.args.cells.now c.loop-cell.jobs c.requires i.long (λ k lt. i.each k (omega (arith, lt)))
