use Rattle.std.proofs.Common.{arith}
use Rattle.host_departments.proofs.Keeping.{job_place}
use Rattle.host_departments.proofs.kept.cell_of.Goals as goal

pub returns-clause-none : goal.returns-clause-none
returns-clause-none c k keeps =
    let place = job_place c.args.room.now c.requires.filled k c.args.job keeps in
    c.loop-cell.invariant.none k (omega (arith, place.1, c.requires.all, c.loop-cell-test.false)) keeps
