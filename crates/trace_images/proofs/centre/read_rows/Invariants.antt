use Rattle.trace_images.specs.Centre.{RowsShown}
use Rattle.trace_images.proofs.centre.read_rows.Given as goal

abbrev pub invariant-loop-place : goal.invariant-loop-place
invariant-loop-place l = RowsShown l.place l.cells l.image
