-- What a node of rows that is on knows of its storage, and what holds of each.
use Rattle.std.proofs.Common.{◌≡◌, ℕ, List, true, sym, subst}
use Rattle.nv_model.specs.declared.nv.Nv as nv
use Rattle.nv_model.specs.Moments.{Image, Only}
use Rattle.nv_store.specs.RoomView.{cells_of}
use Rattle.nv_store.specs.Store.{Shows, OnlyShows}
use Rattle.nv_store.specs.TableKnows.{table_only}
use Rattle.row_node.specs.Kept.{seen_shown}
use Rattle.row_node.specs.Tables.{IsShown, Keeps, bytes_of}
use Rattle.row_node.specs.NodeView.{storage_in, held_in, seen_in, is_on}
use Rattle.row_node.specs.declared.cells.Cells as cells
use Rattle.row_node.specs.declared.rows.Rows as rows
use Rattle.row_node.specs.declared.node.RowNode.{RowNode}

module _ {N R X M P : Type 0} {g : nv.Ghosts N} {r : rows.Ghosts R X M P} {m : cells.Ghosts M P} (k : RowNode N R X M P g r m) where
  -- the cells hold what is kept of them, whether it is on or off
  pub keeps : Keeps r.table k.rows (held_in k)
  keeps = record { filled = k.filled; follows = k.follows }

  only_shows : g.tells → is_on k ≡ true → OnlyShows m.size 2 (cells_of (m.room k.cells)) (held_in k) (g.times (storage_in k)) (g.content (storage_in k))
  only_shows tells on = table_only (m.room k.cells).same ((k.runs on).holds tells)

  -- the only image is what a read gives
  pub only : g.tells → is_on k ≡ true → Only (g.times (storage_in k)) (g.content (storage_in k))
  only tells on = (only_shows tells on).only

  -- and it shows the rows
  pub shown : g.tells → is_on k ≡ true → IsShown r.table m.size (seen_in k) (g.content (storage_in k))
  shown tells on =
      seen_shown r.table.cells r.table.reads (r.table.kept k.rows (held_in k)) (held_in k) k.filled m.size (g.content (storage_in k))
      (subst (λ (n : ℕ). Shows m.size 2 n (held_in k) (g.content (storage_in k))) k.many (only_shows tells on).shows)

  -- each image shows them
  pub shows : g.tells → is_on k ≡ true → (image : List ℕ) → Image (g.times (storage_in k)) image → IsShown r.table m.size (seen_in k) image
  shows tells on image now = subst (λ (c : List ℕ). IsShown r.table m.size (seen_in k) c) (sym (only tells on image now)) (shown tells on)

  pub size : is_on k ≡ true → g.size (storage_in k) ≡ bytes_of r.table m.size
  size on = k.size on
