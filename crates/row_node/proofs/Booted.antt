-- Storage is damaged if its cells hold no sound rows.
use Rattle.std.proofs.Common.{◌≡◌, ◌⊎◌, inl, inr, ℕ, subst}
use Rattle.nv_model.specs.declared.nv.Nv.{Ghosts}
use Rattle.nv_store.specs.Store.{Shows, OnlyShows}
use Rattle.nv_store.specs.RoomView.{cells_of, kept_in}
use Rattle.nv_store.specs.Rooms.{RoomRuns}
use Rattle.nv_store.specs.TableKnows.{table_only}
use Rattle.nv_store.specs.declared.room.Room.{Room}
use Rattle.row_node.specs.Shows.{HasMixedCell, HasForeignCell, BreaksTogether}
use Rattle.row_node.specs.Kept.{foreign_shown, seen_by, seen_long, seen_shown}
use Rattle.row_node.specs.Tables.{Table, IsDamaged}
use Rattle.row_node.specs.Boots.{HoldNone}

module _ {S X N : Type 0} {L : ℕ} (t : Table S X) (g : Ghosts N) (room : Room L) (nv : N) where
  pub none_damaged : cells_of room ≡ t.cells → RoomRuns g room nv → g.tells → HoldNone t (kept_in room) → IsDamaged t L g nv
  none_damaged cells runs tells none = inr (only.only, found none)
    where
      only : OnlyShows L 2 (cells_of room) (kept_in room) (g.times nv) (g.content nv)
      only = table_only room.same (runs.holds tells)

      shows : Shows L 2 t.cells (kept_in room) (g.content nv)
      shows = subst (λ (n : ℕ). Shows L 2 n (kept_in room) (g.content nv)) cells only.shows

      found : HoldNone t (kept_in room) → HasMixedCell L t.cells t.reads (g.content nv) ⊎ (HasForeignCell L t.cells t.reads (g.content nv)
          ⊎ BreaksTogether L t.cells t.reads t.Agree (g.content nv))
      found (inl foreign) = inr (inl (foreign_shown L t.cells t.reads (kept_in room) (g.content nv) shows foreign))
      found (inr u) = inr (inr (record {
        rows = seen_by t.cells (kept_in room) u.rows;
        long = seen_long t.cells t.reads u.rows (kept_in room);
        shows = seen_shown t.cells t.reads u.rows (kept_in room) u.are L (g.content nv) shows;
        breaks = u.breaks;
      }))
