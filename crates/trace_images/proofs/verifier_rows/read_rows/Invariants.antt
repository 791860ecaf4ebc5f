use Rattle.trace_verifier.specs.Helds.{seen_by}
use Rattle.trace_images.specs.VerifierRows.{RowsShown}
use Rattle.trace_images.proofs.verifier_rows.read_rows.Given as goal

abbrev pub invariant-loop-place : goal.invariant-loop-place
invariant-loop-place l = RowsShown l.place (seen_by l.cells.items) l.image
