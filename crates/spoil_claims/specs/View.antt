-- What contracts see of the desk.
use Rattle.std.specs.Prelude.{◌≡◌, Bool}
use Rattle.nv_model.specs.declared.nv.Nv.{Ghosts}
use Rattle.nv_store.specs.RoomView.{cells_of, kept_in}
use Rattle.nv_store.specs.declared.room.Room.{Room}
use Rattle.row_store.specs.Commits.{RowView, rows_view}
use Rattle.line_extensions.specs.Stops.{DeskView}
use Rattle.row_store.specs.Seen.{seen_in}
use Rattle.spoil_claims.specs.Claims.{Claims}
use Rattle.spoil_claims.specs.Payload.{decoded}
use Rattle.spoil_claims.specs.declared.{desk.Desk.Desk, answer.Answer.Answer}

module _ {N : Type 0} {g : Ghosts N} where
  -- its storage
  abbrev pub storage_of : Desk N g → N
  storage_of desk = desk.nv

  -- its memory
  abbrev pub room_of : Desk N g → Room 73
  room_of desk = desk.room

  -- whether a commit of it failed
  abbrev pub has_failed : Desk N g → Bool
  has_failed desk = desk.failed

  -- what it answered last, or waits for
  abbrev pub said_of : Desk N g → Answer
  said_of desk = desk.said

  -- the claims that it keeps
  abbrev pub rows_of : Desk N g → Claims
  rows_of desk = seen_in decoded (cells_of desk.room) (kept_in desk.room)

  -- its cells and their storage
  abbrev pub store_of : Desk N g → RowView
  store_of desk = rows_view g desk.nv desk.room

  -- whether a commit failed, the storage, and what is kept of each cell
  abbrev pub view_of : Desk N g → DeskView N
  view_of desk = record { failed = desk.failed; storage = desk.nv; cells = cells_of desk.room; held = kept_in desk.room }

  -- nothing but its answer is another
  pub record Rests (old new : Desk N g) : Type 0 where
    pub room : new.room ≡ old.room
    pub storage : new.nv ≡ old.nv
    pub failed : new.failed ≡ old.failed
