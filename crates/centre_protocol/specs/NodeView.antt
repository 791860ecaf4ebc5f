-- The type of the centre in its storage: a node of its rows.
use denote.Param.{number}
use Rattle.std.specs.Prelude.{ℕ, List}
use Rattle.bench_base.specs.declared.sizes.TheConstants.{ROW_BYTES}
use Rattle.nv_model.specs.declared.nv.Nv.{Ghosts}
use Rattle.nv_store.specs.declared.room.Room.{Room}
use Rattle.centre_ledger.specs.declared.rows.Row.{Row}
use Rattle.row_node.specs.declared.node.RowNode.{RowNode}
use Rattle.row_node.specs.contracts.cells.RoomCells.TheImpl as cells
use Rattle.centre_protocol.specs.declared.rows.CentreRows.{CentreRows}
use Rattle.centre_protocol.specs.contracts.rows.CentreRowsRows.TheImpl as rows

abbrev pub CentreNode : (N : Type 0) → Ghosts N → Type 0
CentreNode N g = RowNode N CentreRows Row (Room ROW_BYTES) (List ℕ) g rows.ghosts (cells.ghosts (number ROW_BYTES))
