-- What contracts see of the departments.
use Rattle.std.specs.Prelude.{◌≡◌, Bool}
use Rattle.nv_model.specs.declared.nv.Nv.{Ghosts}
use Rattle.nv_store.specs.RoomView.{cells_of, kept_in}
use Rattle.nv_store.specs.declared.room.Room.{Room}
use Rattle.row_store.specs.Commits.{RowView, rows_view}
use Rattle.line_extensions.specs.Stops.{DeskView}
use Rattle.host_departments.specs.Kept.{rows_in}
use Rattle.host_departments.specs.Rows.{Rows}
use Rattle.host_departments.specs.declared.{desk.Departments.Departments, answer.Answer.Answer}

module _ {N : Type 0} {g : Ghosts N} where
  -- their storage
  abbrev pub storage_of : Departments N g → N
  storage_of desk = desk.nv

  -- their memory
  abbrev pub room_of : Departments N g → Room 12
  room_of desk = desk.room

  -- whether a commit of them failed
  abbrev pub has_failed : Departments N g → Bool
  has_failed desk = desk.failed

  -- what was answered last, or is waited for
  abbrev pub said_of : Departments N g → Answer
  said_of desk = desk.said

  -- the quotas and jobs that are kept
  abbrev pub rows_of : Departments N g → Rows
  rows_of desk = rows_in desk.room

  -- their cells and storage
  abbrev pub store_of : Departments N g → RowView
  store_of desk = rows_view g desk.nv desk.room

  -- whether a commit failed, the storage, and what is kept of each cell
  abbrev pub view_of : Departments N g → DeskView N
  view_of desk = record { failed = desk.failed; storage = desk.nv; cells = cells_of desk.room; held = kept_in desk.room }

  -- nothing but the answer is another
  pub record Rests (old new : Departments N g) : Type 0 where
    pub room : new.room ≡ old.room
    pub storage : new.nv ≡ old.nv
    pub failed : new.failed ≡ old.failed
