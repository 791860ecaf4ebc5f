-- Departments without a failed commit are shown by their storage.
use Rattle.std.proofs.Common.{◌≡◌, ℕ, List, false, sym, subst}
use Rattle.nv_model.specs.Moments.{Image}
use Rattle.nv_model.specs.declared.nv.Nv as nv
use Rattle.nv_store.specs.RoomView.{cells_of, kept_in}
use Rattle.nv_store.specs.TableKnows.{table_only}
use Rattle.row_node.specs.Kept.{seen_shown}
use Rattle.row_node.specs.Shows.{ShowsRows}
use Rattle.row_store.specs.Seen.{ReadsAs, row_held}
use Rattle.row_store.proofs.Kept.{filled_of}
use Rattle.host_departments.specs.Payload.{decoded}
use Rattle.host_departments.specs.View.{storage_of, has_failed, rows_of}
use Rattle.host_departments.specs.declared.{desk.Departments.Departments, row.TheConstants.CELLS}

module _ {N : Type 0} {g : nv.Ghosts N} where
  pub shows_now : (desk : Departments N g) → has_failed desk ≡ false → g.tells → (c : List ℕ) → Image (g.times (storage_of desk)) c → ShowsRows 12 CELLS (ReadsAs decoded) (rows_of desk) c
  shows_now desk works tells c image =
      let only = table_only desk.room.same ((desk.runs works).holds tells) in
      let cells = cells_of desk.room in
      let held = kept_in desk.room in
      subst (λ (n : ℕ). ShowsRows 12 n (ReadsAs decoded) (rows_of desk) c) desk.cells
      (subst (λ (d : List ℕ). ShowsRows 12 cells (ReadsAs decoded) (rows_of desk) d) (sym (only.only c image))
      (seen_shown cells (ReadsAs decoded) (λ j. row_held decoded j (held j)) held (filled_of decoded cells held desk.filled) 12 _ only.shows))
