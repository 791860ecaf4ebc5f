use Rattle.std.proofs.Common.{◌∙◌, sym, arith}
use Rattle.nv_store.specs.RoomView.{cells_of, kept_in}
use Rattle.spoil_claims.specs.View.{rows_of}
use Rattle.spoil_claims.proofs.Keeping.{summed_all, rows_long, mark_reads}
use Rattle.spoil_claims.proofs.desk.Desk.credits.Goals as goal

pub postage-requires : goal.postage-requires
postage-requires g c =
    let s = c.args.self.now in
    record { reads = mark_reads (cells_of s.room) (kept_in s.room) s.read c.loop-cell.cell (omega (arith, s.cells, c.loop-cell-test.true)) c.in-Some.row (sym c.in-Some.is ∙ c.row_in.ensures) }

pub returns : goal.returns
returns g c =
    let s = c.args.self.now in
    c.loop-cell.invariant.summed ∙ summed_all (rows_of s) c.args.customer c.loop-cell.cell (omega (arith, rows_long (cells_of s.room) (kept_in s.room), s.cells, c.loop-cell-test.false))
