-- What a mount of a table found.
use Rattle.std.specs.Prelude.{◌≡◌, ◌≢◌, ◌<◌, ℕ, ◌+◌, ◌*◌, false, Some, None, Result, IsErrAnd, IfOk, IfErr, MatchResult}
use Rattle.nv_model.specs.declared.nv.Nv.{Ghosts}
use Rattle.nv_model.specs.Moments.{Only}
use Rattle.nv_store.specs.Slot.{slots_at, IsClear}
use Rattle.nv_store.specs.Scans.{IsMixed}
use Rattle.nv_store.specs.Store.{OnlyShows}
use Rattle.nv_store.specs.Mounts.{Mounts, MountCauses}
use Rattle.nv_store.specs.RoomView.{cells_of}
use Rattle.nv_store.specs.TableView.{storage_of, cell_count, held_by, has_failed}
use Rattle.nv_store.specs.declared.{causes.MountCause.TheVariants.Size, causes.MountCause.TheVariants.Mixed, room.Room.Room, table.MountFail.MountFail, table.Table.Table}

-- it is over the cells of this memory, and gives storage and memory back where it failed
pub record MountsTable {N : Type 0} {L : ℕ} {g : Ghosts N} (nv : N) (room : Room L) (result : Result (Table N L g) (MountFail N L)) : Type 0 where
  pub size : g.size nv ≢ cells_of room * (2 * (5 + L)) → IsErrAnd result (λ e. (e.nv ≡ nv) × (e.cause ≡ Size (g.size nv)))
  pub of_size : IfErr result (λ e. (n : ℕ) → e.cause ≡ Size n → g.size nv ≢ cells_of room * (2 * (5 + L)))
  -- Mixed names the first cell that is mixed
  pub mixed : g.tells → IfErr result (λ e. (k : ℕ) → e.cause ≡ Mixed k
      → Only (g.times e.nv) (g.content e.nv) × (k < cells_of room) × IsMixed 2 (slots_at L (k * (2 * (5 + L))) (g.content e.nv)))
  pub least : g.tells → IfErr result (λ e. (k : ℕ) → e.cause ≡ Mixed k
      → (j : ℕ) → j < k → IsClear 2 (slots_at L (j * (2 * (5 + L))) (g.content e.nv)))
  pub cells : MatchResult result (λ table. cell_count table ≡ cells_of room) (λ e. cells_of e.room ≡ cells_of room)
  pub mounts : g.tells → MatchResult result (λ table. Mounts (g.times nv) (g.times (storage_of table))) (λ e. Mounts (g.times nv) (g.times e.nv))
  pub shows : g.tells → IfOk result (λ table. OnlyShows L 2 (cell_count table) (held_by table) (g.times (storage_of table)) (g.content (storage_of table)))
  pub works : IfOk result (λ table. has_failed table ≡ false)
  pub causes : MatchResult result (λ table. MountCauses (g.meters nv) (g.meters (storage_of table)) None)
      (λ e. MountCauses (g.meters nv) (g.meters e.nv) (Some e.cause))
  pub bytes : MatchResult result (λ table. g.size (storage_of table) ≡ g.size nv) (λ e. g.size e.nv ≡ g.size nv)
