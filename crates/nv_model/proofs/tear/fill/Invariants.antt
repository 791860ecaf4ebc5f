use Rattle.std.proofs.Common.{◌≡◌, ◌-◌, ◌≤◌, replicate}
use Rattle.nv_model.specs.Bytes.{laid}
use Rattle.nv_model.specs.Meters.{Counts, Works}
use Rattle.nv_model.specs.Moments.{Part}
use Rattle.nv_model.proofs.tear.fill.Given as goal

abbrev pub invariant-loop-done : goal.invariant-loop-done
invariant-loop-done g l = record {
  inside : l.done ≤ l.count;
  part : g.N.Nv.tells → Part l.at l.count (g.N.Nv.times l.initial.nv) (g.N.Nv.times l.nv);
  counts : Counts (g.N.Nv.meters l.initial.nv) (g.N.Nv.meters l.nv);
  size : g.N.Nv.size l.nv ≡ g.N.Nv.size l.initial.nv;
  works : Works (g.N.Nv.meters l.nv);
  content : g.N.Nv.tells → g.N.Nv.content l.nv ≡ laid (g.N.Nv.content l.initial.nv) l.at (replicate l.done l.byte);
}

abbrev pub decreases-loop-done : goal.decreases-loop-done
decreases-loop-done g l = l.count - l.done
