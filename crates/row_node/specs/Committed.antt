-- What a commit of a change leaves of a node of rows.
use Rattle.std.specs.Prelude.{◌≡◌, Result, OnErr, IsErrOf, is_ok}
use Rattle.bench_base.specs.declared.{refusals.StoreFail.StoreFail, refusals.StoreFail.TheVariants.Worn}
use Rattle.nv_model.specs.declared.nv.Nv as nv
use Rattle.node_storage.specs.Does.{Commits, Stores, Writes}
use Rattle.node_storage.specs.Ends.{begins, end_of_commit, leaves_running}
use Rattle.row_node.specs.Tables.{IsShown, counting, fill_of}
use Rattle.row_node.specs.NodeView.{storage_in, seen_in, is_on}
use Rattle.row_node.specs.declared.cells.Cells as cells
use Rattle.row_node.specs.declared.rows.Rows as rows
use Rattle.row_node.specs.declared.node.RowNode.{RowNode}

-- the fields are the clauses of `Node::commit`
pub record Committed {N R X M P : Type 0} {g : nv.Ghosts N} {r : rows.Ghosts R X M P} {m : cells.Ghosts M P} (x : X) (old new : RowNode N R X M P g r m)
    (result : Result (Unit {0}) StoreFail) : Type 0 where
  pub leaves : is_on new ≡ leaves_running result
  pub kept : r.table.HasCell x
  pub rests : IsErrOf result Worn → new ≡ old
  pub stays : OnErr result (seen_in new ≡ seen_in old)
  pub answers : Commits (counting r.table) (seen_in old) (seen_in new) x result
  pub stores : Stores g (IsShown r.table m.size (seen_in old)) (IsShown r.table m.size ((counting r.table).after (seen_in old) x)) (storage_in old)
      (storage_in new) (end_of_commit result)
  pub writes : Writes g (fill_of r.table m.size (seen_in old) x) (storage_in old) (storage_in new) (begins result) (is_ok result)
