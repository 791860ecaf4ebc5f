use Rattle.std.proofs.Common.{◌<◌, ◌^◌, ◌+◌, length, get_or, sym, ◌∙◌, ap, subst, arith}
use Rattle.std.proofs.lemmas.List.{length-map}
use Rattle.node_acts.specs.RowList.{commits_at, row_of}
use Rattle.verifier.specs.Seen.{Seen}
use Rattle.trace_verifier.specs.Helds.{seen_by, seen_cell}
use Rattle.trace_verifier.specs.Records.{AreIndexed, row_by}
use Rattle.trace_verifier.proofs.Kept.{put_is, blank_at, some_at, fresh_is, may_index, indexed_put, total_few}
use Rattle.trace_verifier.proofs.record.put_in.Goals as goal

pub index_change-requires : goal.index_change-requires
index_change-requires c =
    let cells = c.args.cells.now.items in
    let x = c.args.change.now in
    let cell = c.cell_of-cell.result in
    let inside : cell < length cells = omega (arith, c.cell_of-cell.ensures, c.requires.fits.inside, c.requires.kept.sound.long, length-map cells seen_cell) in
    may_index (seen_by cells) c.args.index.now c.args.total.now c.requires.kept x c.requires.fits c.is_none-fresh.result
    (blank_at cells cell x c.cell_of-cell.ensures inside c.index-2.result.now c.is_none-fresh.result (fresh_is c.is_none-fresh.result c.index-2.result.now (get_or cells cell c.index-2.result.now) c.is_none-fresh.ensures c.index-2.ensures))

pub overflow_add-total : goal.overflow_add-total
overflow_add-total c = let few : c.args.total.now < 2 ^ 48 = total_few (seen_by c.args.cells.now.items) c.args.index.now c.args.total.now c.requires.kept in omega arith

pub returns-clause-put : goal.returns-clause-put
returns-clause-put c =
    let cells = c.args.cells.now.items in
    let x = c.args.change.now in
    let cell = c.cell_of-cell.result in
    let inside : cell < length cells = omega (arith, c.cell_of-cell.ensures, c.requires.fits.inside, c.requires.kept.sound.long, length-map cells seen_cell) in
    put_is cells cell x c.cell_of-cell.ensures inside c.index.result.now c.index-3.result.now c.count_of-count.result c.held_with-held.result
    (c.count_of-count.ensures ∙ ap (λ o. commits_at (seen_cell o)) c.index.ensures)
    (c.held_with-held.ensures ∙ ap (λ o. row_by (row_of (seen_cell o)) x) c.index-3.ensures)

pub returns-clause-kept : goal.returns-clause-kept
returns-clause-kept c =
    let cells = c.args.cells.now.items in
    let x = c.args.change.now in
    let cell = c.cell_of-cell.result in
    let inside : cell < length cells = omega (arith, c.cell_of-cell.ensures, c.requires.fits.inside, c.requires.kept.sound.long, length-map cells seen_cell) in
    let fresh = fresh_is c.is_none-fresh.result c.index-2.result.now (get_or cells cell c.index-2.result.now) c.is_none-fresh.ensures c.index-2.ensures in
    let done = returns-clause-put c in
    subst (λ (t : Seen). AreIndexed t c.index_change.new.index (c.args.total.now + 1)) (sym done)
    (indexed_put (seen_by cells) c.args.index.now c.index_change.new.index c.args.total.now c.requires.kept x c.requires.fits c.requires.room c.is_none-fresh.result
    (blank_at cells cell x c.cell_of-cell.ensures inside c.index-2.result.now c.is_none-fresh.result fresh)
    (some_at cells cell x c.cell_of-cell.ensures inside c.index-2.result.now c.is_none-fresh.result fresh)
    c.index_change.ensures)
