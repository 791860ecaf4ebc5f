-- What contracts see of a node of rows.
use Rattle.std.specs.Prelude.{Bool, ℕ, Option}
use Rattle.nv_model.specs.declared.nv.Nv as nv
use Rattle.nv_store.specs.Slot.{Held}
use Rattle.nv_store.specs.RoomView.{kept_in}
use Rattle.node_acts.specs.RowList.{RowList}
use Rattle.row_node.specs.Tables.{seen_of}
use Rattle.row_node.specs.declared.cells.Cells as cells
use Rattle.row_node.specs.declared.rows.Rows as rows
use Rattle.row_node.specs.declared.node.RowNode.{RowNode}

module _ {N R X M P : Type 0} {g : nv.Ghosts N} {r : rows.Ghosts R X M P} {m : cells.Ghosts M P} (k : RowNode N R X M P g r m) where
  -- its storage
  abbrev pub storage_in : N
  storage_in = k.nv

  -- what its cells hold
  abbrev pub held_in : ℕ → Option Held
  held_in = kept_in (m.room k.cells)

  -- its rows, with the commits of each cell
  abbrev pub seen_in : RowList r.table.Row
  seen_in = seen_of r.table k.rows held_in

  abbrev pub is_on : Bool
  is_on = k.on
