use Rattle.std.proofs.Common.{◌≡◌, ◌<◌}
use Rattle.nv_model.specs.Meters.{Went, went_well}
use Rattle.nv_model.specs.Moments.{Rests}
use Rattle.nv_store.specs.Slot.{slots_at}
use Rattle.nv_store.specs.Scans.{Scanned}
use Rattle.nv_store.proofs.scan.scan_slots.Given as goal

abbrev pub invariant-loop-place : goal.invariant-loop-place
invariant-loop-place g l = record {
  rests : g.N.Nv.tells → Rests (g.N.Nv.content l.initial.nv) (g.N.Nv.content l.nv) (g.N.Nv.times l.initial.nv) (g.N.Nv.times l.nv);
  went : Went {T = Unit {0}} 0 (g.N.Nv.meters l.initial.nv) (g.N.Nv.meters l.nv) went_well;
  size : g.N.Nv.size l.nv ≡ g.N.Nv.size l.initial.nv;
  place : 0 < l.slots → l.scan.head.place < l.slots;
  scanned : g.N.Nv.tells → Scanned l.place (slots_at g.row.L l.at (g.N.Nv.content l.initial.nv)) l.scan.head.count l.scan.head.place l.scan.head.gates l.scan.counts;
}
