use Rattle.std.proofs.Common.{◌-◌, arith}
use Rattle.host_departments.specs.Kept.{rows_in}
use Rattle.host_departments.specs.Rows.{Keeps}
use Rattle.host_departments.proofs.Keeping.{job_place}
use Rattle.host_departments.proofs.index.indexed_cell.Goals as goal

pub returns-then-keeps-clause-found : goal.returns-then-keeps-clause-found
returns-then-keeps-clause-found c =
    let kept : Keeps (rows_in c.args.room.now) (c.from-cell.result - 1) c.args.job = c.keeps.ensures.0 c.if-keeps.true in
    let place = job_place c.args.room.now c.requires.filled (c.from-cell.result - 1) c.args.job kept in
    (kept, omega (arith, place.1, c.requires.all))
