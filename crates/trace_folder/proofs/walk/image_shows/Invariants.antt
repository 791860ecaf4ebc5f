use Rattle.std.proofs.Common.{◌≤◌}
use Rattle.trace_folder.proofs.Walks.{Walked}
use Rattle.trace_folder.proofs.walk.image_shows.Given as goal

abbrev pub invariant-loop-place : goal.invariant-loop-place
invariant-loop-place g l = record {
  walked : Walked (g.C.Cells.counted l.fn.node) (g.C.Cells.opened l.fn.node) g.C.Cells.SIZE l.place (g.S.Source.left l.fn.image) (g.S.Source.left l.image) l.seen;
  later : g.S.Source.faults l.fn.image ≤ g.S.Source.faults l.image;
}
