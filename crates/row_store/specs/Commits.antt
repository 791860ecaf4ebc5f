-- What a commit of a row leaves.
use Rattle.std.specs.Prelude.{◌≡◌, ◌↔◌, ◌⊎◌, ◌≤◌, ℕ, List, Option, true, Result, OnOk, OnErr, IsErrOf, is_ok}
use Rattle.bench_base.specs.declared.{refusals.StoreFail.StoreFail, refusals.StoreFail.TheVariants.Power, refusals.StoreFail.TheVariants.Fault, refusals.StoreFail.TheVariants.Worn, refusals.StoreFail.TheVariants.Failed}
use Rattle.bench_base.specs.Causes.{Rose}
use Rattle.nv_model.specs.declared.nv.Nv.{Ghosts}
use Rattle.nv_model.specs.Meters.{Meters, WasCut, Uses}
use Rattle.nv_model.specs.Moments.{Times, Elapses, Stays}
use Rattle.nv_store.specs.Fills.{Fills, Told}
use Rattle.nv_store.specs.RoomView.{cells_of, kept_in}
use Rattle.nv_store.specs.Slot.{Held}
use Rattle.nv_store.specs.Store.{UsesCommit}
use Rattle.nv_store.specs.declared.room.Room.{Room}
use Rattle.node_acts.specs.RowList.{RowList, is_worn, put}
use Rattle.row_node.specs.Shows.{ShowsRows, row_fill}
use Rattle.row_store.specs.Seen.{ReadsAs, seen_in}

-- cells as contracts see them: what is kept of each, and their storage
pub record RowView : Type 1 where
  pub cells : ℕ
  pub held : ℕ → Option Held
  pub content : List ℕ
  pub times : Times
  pub meters : Meters

-- the cells that a room keeps, over their storage
abbrev pub rows_view : {N : Type 0} {L : ℕ} (g : Ghosts N) → N → Room L → RowView
rows_view g nv room = record { cells = cells_of room; held = kept_in room; content = g.content nv; times = g.times nv; meters = g.meters nv }

-- what their storage exposes
abbrev pub told_in : RowView → Told
told_in v = record { content = v.content; times = v.times; meters = v.meters }

-- the rows of the cells, with their counts
abbrev pub rows_in : {R : Type 0} → (ℕ → List ℕ → Option R) → RowView → RowList R
rows_in decoded v = seen_in decoded v.cells v.held

-- A commit of a row to a cell: done, or found worn, or broken off. At every moment each image shows the rows before it or
-- those after it. Unless the cell is worn, it fills the next slot with the one spelling of the row. If it was made, it used
-- four calls or six. A worn cell's storage is not called.
pub record CommitsRow {R : Type 0} (tells : Type 0) (decoded : ℕ → List ℕ → Option R) (spelled : ℕ → R → List ℕ) (size cell : ℕ) (x : R)
    (old new : RowView) (result : Result (Unit {0}) StoreFail) : Type 0 where
  pub done : OnOk result (rows_in decoded new ≡ put (rows_in decoded old) cell x)
  pub stays : OnErr result (rows_in decoded new ≡ rows_in decoded old)
  pub not_failed : IsErrOf result Failed → ⊥
  pub worn : IsErrOf result Worn ↔ (is_worn (rows_in decoded old) cell ≡ true)
  pub power : IsErrOf result Power → WasCut old.meters new.meters
  pub fault : IsErrOf result Fault → Rose old.meters.faults new.meters.faults
  pub cuts : old.meters.cuts ≤ new.meters.cuts
  pub faults : old.meters.faults ≤ new.meters.faults
  pub fuse : Uses 6 old.meters.fuse new.meters.fuse
  pub any_moment : tells → (IsErrOf result Worn → ⊥) → (c : List ℕ) → new.times.since old.times.moment c
      → ShowsRows size old.cells (ReadsAs decoded) (rows_in decoded old) c ⊎ ShowsRows size old.cells (ReadsAs decoded) (put (rows_in decoded old) cell x) c
  pub time : tells → Elapses old.times new.times
  pub fills : tells → (IsErrOf result Worn → ⊥) → Fills (row_fill size (rows_in decoded old) cell (spelled cell x)) (told_in old) (told_in new) (is_ok result)
  pub calls : OnOk result (UsesCommit old.meters.fuse new.meters.fuse)
  pub untouched : IsErrOf result Worn → (new.content ≡ old.content) × (new.meters ≡ old.meters) × Stays old.times new.times
