use Rattle.trace_verifier.specs.Helds.{seen_by}
use Rattle.trace_verifier.specs.Listed.{AreListed}
use Rattle.trace_verifier.proofs.of_cells.end_of_blocks.Given as goal

abbrev pub invariant-loop-cell : goal.invariant-loop-cell
invariant-loop-cell l = AreListed (seen_by l.cells) l.cell
