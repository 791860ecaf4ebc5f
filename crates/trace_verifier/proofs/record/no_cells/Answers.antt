use Rattle.std.proofs.Common.{◌≡◌, length, arith}
use Rattle.bench_base.specs.declared.sizes.TheConstants.{VERIFIER_CELLS}
use Rattle.trace_verifier.proofs.Blank.{blank_is}
use Rattle.trace_verifier.proofs.record.no_cells.Goals as goal

pub returns : goal.returns
returns c =
    let i = c.loop-cell.invariant in
    let long : length c.loop-cell.cells.items ≡ VERIFIER_CELLS = omega arith in
    blank_is c.loop-cell.cells.items long (λ k lt. i.blank k (omega (arith, long, lt)))
