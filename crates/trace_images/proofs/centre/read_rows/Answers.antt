use Rattle.std.proofs.Common.{ℕ, List, Option, subst, arith}
use Rattle.centre_ledger.specs.declared.rows.Row.{Row}
use Rattle.centre_protocol.specs.Payloads.{IsPayloadOf}
use Rattle.node_images.specs.Cells.{ShowsCell}
use Rattle.trace_images.specs.Centre.{RowShown}
use Rattle.trace_images.proofs.Reading.{no_image}
use Rattle.trace_images.proofs.CentreShown.{no_rows, more_rows}
use Rattle.trace_images.proofs.centre.read_rows.Goals as goal

pub loop-place-init : goal.loop-place-init
loop-place-init c = no_rows c.args.image.now

pub returns-in-Err-clause-none : goal.returns-in-Err-clause-none
returns-in-Err-clause-none c =
    let place = c.loop-place.place in
    no_image 192 72 IsPayloadOf c.args.image.now place (omega (arith, c.loop-place-test.true))
    (subst (λ (cell : List ℕ). (seen : Option (ℕ × Row)) → ShowsCell 192 (IsPayloadOf place) seen cell → ⊥) c.cell_bytes.ensures.value c.in-Err.ensures.none)

pub loop-place-preserved : goal.loop-place-preserved
loop-place-preserved c =
    let place = c.loop-place.place in
    more_rows place c.loop-place.cells c.in-Ok.seen c.args.image.now (omega (arith, c.loop-place-test.true)) c.loop-place.invariant
    (subst (λ (cell : List ℕ). RowShown place c.in-Ok.seen cell) c.cell_bytes.ensures.value c.in-Ok.ensures.shows)
