-- The type of the host in its storage: a node of its rows.
use denote.Param.{number}
use Rattle.std.specs.Prelude.{ℕ, List}
use Rattle.host_jobs.specs.declared.{sizes.TheConstants.JOB_BYTES, rows.JobRow.JobRow}
use Rattle.nv_model.specs.declared.nv.Nv.{Ghosts}
use Rattle.nv_store.specs.declared.room.Room.{Room}
use Rattle.row_node.specs.declared.node.RowNode.{RowNode}
use Rattle.row_node.specs.contracts.cells.RoomCells.TheImpl as cells
use Rattle.host_node.specs.declared.rows.HostRows.{HostRows}
use Rattle.host_node.specs.contracts.rows.HostRowsRows.TheImpl as rows

abbrev pub HostNode : (N : Type 0) → Ghosts N → Type 0
HostNode N g = RowNode N HostRows JobRow (Room JOB_BYTES) (List ℕ) g rows.ghosts (cells.ghosts (number JOB_BYTES))
