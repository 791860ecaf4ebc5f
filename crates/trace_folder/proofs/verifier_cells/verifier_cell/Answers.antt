use Rattle.std.proofs.Common.{◌≡◌, ℕ, ◌<◌, None, false, length, sym, ◌∙◌, ap, subst, arith}
use Rattle.std.proofs.lemmas.List.{length-map, get_or-map}
use Rattle.node_acts.specs.RowList.{row_at, is_worn}
use Rattle.verifier.specs.ActLaws.{IsFit}
use Rattle.verifier.specs.Seen.{Seen, counting}
use Rattle.trace_verifier.specs.Cells.{cells_of}
use Rattle.trace_verifier.specs.Helds.{seen_cell}
use Rattle.trace_folder.proofs.Fresh.{fresh_held, room_in}
use Rattle.trace_folder.proofs.verifier_cells.verifier_cell.Goals as goal

pub shows_change-requires-clause-fresh : goal.shows_change-requires-clause-fresh
shows_change-requires-clause-fresh c =
    let kept = c.args.traced.now.record.kept in
    let s = cells_of c.args.traced.now.record in
    let cells = c.cells.result.now in
    let place = c.args.place in
    let inside : place < length cells =
    omega (arith, c.requires.inside, length-map cells seen_cell, ap (λ (t : Seen). length t) c.cells.ensures, kept.sound.long) in
    fresh_held s place (seen_cell c.index-cells-place.result)
    (ap (λ (t : Seen). row_at t place) (sym c.cells.ensures) ∙ get_or-map seen_cell cells place c.index-cells-place.result None inside
    ∙ ap seen_cell (sym c.index-cells-place.is))
    kept.few
    (subst (λ (k : ℕ). is_worn s k ≡ false) (sym c.cell_of.ensures ∙ c.if-cell_of-place.true)
    (room_in counting (λ t x. IsFit t x) s c.args.traced.now.open c.in-Some.change c.requires.settled.takes c.in-Some.is))
