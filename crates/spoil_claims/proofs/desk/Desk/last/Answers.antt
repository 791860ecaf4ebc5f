use Rattle.std.proofs.Common.{◌∙◌, arith}
use Rattle.nv_store.specs.RoomView.{cells_of, kept_in}
use Rattle.spoil_claims.specs.View.{rows_of}
use Rattle.spoil_claims.proofs.Keeping.{counted_all, rows_long}
use Rattle.spoil_claims.proofs.desk.Desk.last.Goals as goal

pub returns-clause-is : goal.returns-clause-is
returns-clause-is g c =
    let s = c.args.self.now in
    c.loop-cell.invariant.counted ∙ counted_all (rows_of s) c.loop-cell.cell (omega (arith, rows_long (cells_of s.room) (kept_in s.room), s.cells, c.loop-cell-test.false))
