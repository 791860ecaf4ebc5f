-- What contracts see of a running node of rows and of its calls.
use Rattle.std.specs.Prelude.{◌≡◌, Option, Result, None}
use Rattle.bench_base.specs.declared.{ledger.Commit.Commit, refusals.Fail.Fail}
use Rattle.nv_model.specs.declared.nv.Nv as nv
use Rattle.nv_model.specs.Moments.{Only}
use Rattle.node_acts.specs.RowList.{RowList}
use Rattle.node_acts.specs.declared.{act.Act.Act, act.Act.TheVariants.Commits}
use Rattle.node_storage.specs.Performed.{Performed}
use Rattle.row_node.specs.Tables.{IsShown, bytes_of, counting, fill_of}
use Rattle.row_node.specs.NodeView.{storage_in, seen_in}
use Rattle.row_node.specs.declared.cells.Cells as cells
use Rattle.row_node.specs.declared.rows.Rows as rows
use Rattle.row_node.specs.declared.{node.RowNode.RowNode, running.RunningRows.RunningRows}

module _ {N R X M P : Type 0} {g : nv.Ghosts N} {r : rows.Ghosts R X M P} {m : cells.Ghosts M P} where
  abbrev pub node_of : RunningRows N R X M P g r m → RowNode N R X M P g r m
  node_of k = k.running.node

  -- its storage
  abbrev pub storage_of : RunningRows N R X M P g r m → N
  storage_of k = storage_in (node_of k)

  -- its rows, with the commits of each cell
  abbrev pub seen_of : RunningRows N R X M P g r m → RowList r.table.Row
  seen_of k = seen_in (node_of k)

  -- the commit of it that failed
  abbrev pub torn_of : RunningRows N R X M P g r m → Option Commit
  torn_of k = k.running.torn

  -- what starts: it shows what its storage shows
  pub record Starts (k : RunningRows N R X M P g r m) : Type 0 where
    pub works : torn_of k ≡ None
    pub sound : r.table.IsSound (seen_of k)
    pub size : g.size (storage_of k) ≡ bytes_of r.table m.size
    pub only : g.tells → Only (g.times (storage_of k)) (g.content (storage_of k))
    pub shows : g.tells → IsShown r.table m.size (seen_of k) (g.content (storage_of k))

  -- the rows can take what the act commits, if it commits
  abbrev pub CanCommit : {F A : Type 0} → Act X F A → RunningRows N R X M P g r m → Type 0
  CanCommit {F} {A} act k = (commit : Commit) (x : X) (a : A) → act ≡ Commits commit x a → r.table.IsFit (seen_of k) x

  -- what a call of this act did, answered and left
  pub record Performs {F A : Type 0} (act : Act X F A) (old new : RunningRows N R X M P g r m) (result : Result A (Fail F)) : Type 0 where
    pub performed : Performed g (counting r.table) (fill_of r.table m.size) (IsShown r.table m.size) (λ k. storage_in k.node) (λ k. seen_in k.node)
        (λ k. k.torn) act old.running new.running result
    pub size : g.size (storage_of new) ≡ bytes_of r.table m.size
