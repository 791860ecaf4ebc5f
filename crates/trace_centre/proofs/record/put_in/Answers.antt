use Rattle.std.proofs.Common.{◌≡◌, ◌<◌, ◌^◌, ◌+◌, Some, set, sym, subst, arith}
use Rattle.node_acts.specs.RowList.{RowList, put}
use Rattle.centre_ledger.specs.declared.rows.Row.{Row}
use Rattle.centre_ledger.specs.Books.{Books}
use Rattle.centre_ledger.specs.Seen.{cell_of}
use Rattle.trace_centre.specs.Records.{AreKept}
use Rattle.trace_centre.proofs.Kept.{kept_put, total_few, put_is}
use Rattle.trace_centre.proofs.record.put_in.Goals as goal

pub overflow_add-total : goal.overflow_add-total
overflow_add-total c = let few : c.args.total.now < 2 ^ 48 = total_few c.args.cells.now c.args.accounts.now c.args.total.now c.requires.kept in omega arith

pub returns-clause-kept : goal.returns-clause-kept
returns-clause-kept c =
    let s = c.args.cells.now in
    let x = c.args.row.now in
    let same : set s c.cell_of-cell.result (Some (c.count_of-count.result + 1, x)) ≡ put s (cell_of x) x =
    put_is s c.cell_of-cell.result c.index-cells-cell.result c.count_of-count.result x c.cell_of-cell.ensures.value (omega (arith, c.cell_of-cell.ensures.inside, c.requires.kept.long)) c.count_of-count.ensures in
    subst (λ (t : RowList Row). AreKept t c.put.new.self (c.args.total.now + 1)) (sym same)
    (subst (λ (b : Books). AreKept (put s (cell_of x) x) b (c.args.total.now + 1)) (sym c.put.ensures)
    (kept_put s c.args.accounts.now c.args.total.now c.requires.kept x c.requires.fits c.requires.room))
