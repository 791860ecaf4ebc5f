use Rattle.std.proofs.Common.{ℕ, ◌+◌, List, [], ◌∷◌, Option, sym, ◌∙◌, ap, subst, arith}
use Rattle.std.proofs.lemmas.List.{map-append}
use Rattle.verifier.specs.Payload.{IsPayloadOf}
use Rattle.verifier.specs.Rows.{Row}
use Rattle.verifier.specs.Seen.{Seen}
use Rattle.node_images.specs.Cells.{ShowsCell}
use Rattle.trace_verifier.specs.declared.held.Held.{Held}
use Rattle.trace_verifier.specs.Helds.{seen_by, seen_cell}
use Rattle.trace_images.specs.VerifierRows.{RowsShown}
use Rattle.trace_images.proofs.Reading.{no_image}
use Rattle.trace_images.proofs.VerifierCells.{more_rows}
use Rattle.trace_images.proofs.verifier_rows.read_rows.Goals as goal

pub returns-in_default-clause-none : goal.returns-in_default-clause-none
returns-in_default-clause-none c =
    let place = c.loop-place.place in
    no_image 2056 1032 IsPayloadOf c.args.image.now place (omega (arith, c.loop-place-test.true))
    (subst (λ (cell : List ℕ). (seen : Option (ℕ × Row)) → ShowsCell 2056 (IsPayloadOf place) seen cell → ⊥) c.cell_bytes.ensures.value c.in_default.ensures.none)

pub loop-place-preserved : goal.loop-place-preserved
loop-place-preserved c =
    let place = c.loop-place.place in
    let cells = c.loop-place.cells.items in
    subst (λ (s : Seen). RowsShown (place + 1) s c.args.image.now)
    (sym (ap (λ (l : List (Option (ℕ × Held))). seen_by l) c.in_ok-push.ensures.items ∙ map-append seen_cell cells (c.in-Ok.seen ∷ [])))
    (more_rows place (seen_by cells) (seen_cell c.in-Ok.seen) c.args.image.now c.loop-place.invariant
    (subst (λ (cell : List ℕ). ShowsCell 2056 (IsPayloadOf place) (seen_cell c.in-Ok.seen) cell) c.cell_bytes.ensures.value c.in-Ok.ensures.shows))
