use Rattle.std.proofs.Common.{arith}
use Rattle.trace_folder.proofs.Sources.{unread, on_err}
use Rattle.trace_folder.proofs.Walks.{more_counted, more_open, more_other}
use Rattle.trace_folder.proofs.walk.image_shows.Goals as goal
use Rattle.trace_folder.proofs.walk.image_shows.Goals.{in-Counted, in-Open}

pub returns-in_err-next_cell-clause-failed : goal.returns-in_err-next_cell-clause-failed
returns-in_err-next_cell-clause-failed g c =
    let walked = c.loop-place.invariant.walked in
    on_err c.from_residual.result _
    (unread g.C.Cells.COUNT c.loop-place.place g.C.Cells.SIZE _ _ _ _ _ walked.front walked.taken walked.long (omega (arith, c.loop-place-test.true)) c.loop-place.invariant.later
    c.in_err-next_cell.ensures.failed)

pub returns-in-Other-clause-shows : goal.returns-in-Other-clause-shows
returns-in-Other-clause-shows g c =
    more_other (g.C.Cells.counted c.args.node.now) (g.C.Cells.opened c.args.node.now) g.C.Cells.SIZE c.loop-place.place _ _ _ c.loop-place.seen c.loop-place.invariant.walked
    c.in_ok-next_cell.field-0 c.in_ok-next_cell.ensures.shows g.C.Cells.COUNT (omega (arith, c.loop-place-test.true)) c.in-Other.is

pub loop-place-preserved : goal.loop-place-preserved
loop-place-preserved g c = record {
  walked = elim c.match-branch-2.branch [
    | in-Counted w ↦ more_counted (g.C.Cells.counted c.args.node.now) (g.C.Cells.opened c.args.node.now) g.C.Cells.SIZE c.loop-place.place _ _ _ c.loop-place.seen c.loop-place.invariant.walked
        c.in_ok-next_cell.field-0 c.in_ok-next_cell.ensures.shows c.match-branch-2.seen w.seen-is w.in-Counted.is
    | in-Open w ↦ more_open (g.C.Cells.counted c.args.node.now) (g.C.Cells.opened c.args.node.now) g.C.Cells.SIZE c.loop-place.place _ _ _ c.loop-place.seen c.loop-place.invariant.walked
        c.in_ok-next_cell.field-0 c.in_ok-next_cell.ensures.shows c.match-branch-2.seen w.seen-is w.in-Open.is
  ];
  later = omega (arith, c.loop-place.invariant.later, c.in_ok-next_cell.ensures.later);
}
