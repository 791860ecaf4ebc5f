use Rattle.std.proofs.Common.{arith}
use Rattle.trace_verifier.proofs.Counted.{few_all}
use Rattle.trace_verifier.proofs.of_cells.count_all.Goals as goal

pub returns-clause-few : goal.returns-clause-few
returns-clause-few c = few_all c.args.cells.now (λ k lt. c.loop-cell.invariant.few k (omega (arith, lt, c.loop-cell-test.false)))
