-- The type of the verifier in its storage: a node of its rows.
use denote.Param.{number}
use Rattle.std.specs.Prelude.{ℕ, List}
use Rattle.bench_base.specs.declared.sizes.TheConstants.{BLOCK_BYTES}
use Rattle.nv_model.specs.declared.nv.Nv.{Ghosts}
use Rattle.nv_store.specs.declared.room.Room.{Room}
use Rattle.verifier.specs.declared.acts.Change.{Change}
use Rattle.row_node.specs.declared.node.RowNode.{RowNode}
use Rattle.row_node.specs.contracts.cells.RoomCells.TheImpl as cells
use Rattle.verifier_node.specs.declared.rows.VerifierRows.{VerifierRows}
use Rattle.verifier_node.specs.contracts.rows.VerifierRowsRows.TheImpl as rows

abbrev pub VerifierNode : (N : Type 0) → Ghosts N → Type 0
VerifierNode N g = RowNode N VerifierRows Change (Room BLOCK_BYTES) (List ℕ) g rows.ghosts (cells.ghosts (number BLOCK_BYTES))
