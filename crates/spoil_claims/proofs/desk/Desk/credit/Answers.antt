use Rattle.std.proofs.Common.{refl, arith}
use Rattle.nv_store.specs.RoomView.{cells_of, kept_in}
use Rattle.spoil_claims.specs.Courses.{as_credited}
use Rattle.spoil_claims.specs.View.{rows_of}
use Rattle.spoil_claims.proofs.Keeping.{again_packed, rows_long}
use Rattle.spoil_claims.proofs.desk.Desk.credit.Goals as goal

pub commit-requires-clause-packed : goal.commit-requires-clause-packed
commit-requires-clause-packed g c =
    let s = c.args.self.now in
    let kept = c.requires.kept in
    again_packed (rows_of s) (as_credited c.args.row.now) c.args.row.now s.packed kept refl (omega (arith, rows_long (cells_of s.room) (kept_in s.room), s.cells, kept.first, kept.last))
