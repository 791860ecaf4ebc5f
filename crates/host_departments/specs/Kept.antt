-- What the cells of a memory keep.
use Rattle.nv_store.specs.RoomView.{cells_of, kept_in}
use Rattle.nv_store.specs.declared.room.Room.{Room}
use Rattle.row_store.specs.Seen.{AllRead, seen_in}
use Rattle.host_departments.specs.Payload.{decoded}
use Rattle.host_departments.specs.Rows.{Rows}

-- each cell is blank or keeps a quota or a job
abbrev pub AllFilled : Room 12 → Type 0
AllFilled room = AllRead decoded (cells_of room) (kept_in room)

abbrev pub rows_in : Room 12 → Rows
rows_in room = seen_in decoded (cells_of room) (kept_in room)
