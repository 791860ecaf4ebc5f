use Rattle.std.proofs.Common.{◌≡◌, ℕ, ◌<◌, ◌*◌, ◌+◌, length}
use Rattle.nv_model.specs.Meters.{Went, went_well}
use Rattle.nv_model.specs.Moments.{Rests}
use Rattle.nv_store.specs.Slot.{slots_at, IsClear}
use Rattle.nv_store.specs.Tables.{TableKnown, PlacesInside}
use Rattle.nv_store.proofs.cells.find_cells.Given as goal

abbrev pub invariant-loop-cell : goal.invariant-loop-cell
invariant-loop-cell g l = record {
  rests : g.N.Nv.tells → Rests (g.N.Nv.content l.initial.nv) (g.N.Nv.content l.nv) (g.N.Nv.times l.initial.nv) (g.N.Nv.times l.nv);
  went : Went {T = Unit {0}} 0 (g.N.Nv.meters l.initial.nv) (g.N.Nv.meters l.nv) went_well;
  size : g.N.Nv.size l.nv ≡ g.N.Nv.size l.initial.nv;
  long : length l.heads.items ≡ length l.initial.heads.items;
  same : length l.payloads.items ≡ length l.initial.payloads.items;
  places : PlacesInside 2 l.cell l.heads.items;
  known : g.N.Nv.tells → TableKnown g.row.L 2 l.cell (g.N.Nv.content l.initial.nv) l.heads.items l.payloads.items;
  clear : g.N.Nv.tells → (j : ℕ) → j < l.cell → IsClear 2 (slots_at g.row.L (j * (2 * (5 + g.row.L))) (g.N.Nv.content l.initial.nv));
}
