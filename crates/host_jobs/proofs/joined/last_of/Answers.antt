use Rattle.std.proofs.Common.{◌<◌, length, arith}
use Rattle.host_jobs.specs.Rows.{number_in}
use Rattle.host_jobs.proofs.Walks.{greatest_more}
use Rattle.host_jobs.proofs.joined.last_of.Goals as goal
use Rattle.host_jobs.proofs.joined.last_of.Goals.{then-last-number, else-last-number}

pub loop-cell-preserved : goal.loop-cell-preserved
loop-cell-preserved c =
    let rows = c.args.rows.now in
    let inside : c.loop-cell.cell < length rows = omega (arith, c.requires, c.loop-cell-test.true) in
    let more = greatest_more rows c.loop-cell.cell inside number_in in
    elim c.if-last-number.branch [ then-last-number w ↦ omega (arith, more, c.number_of-number.ensures, c.loop-cell.invariant) | else-last-number w ↦ omega (arith, more, c.number_of-number.ensures, c.loop-cell.invariant) ]
