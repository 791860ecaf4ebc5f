-- Storage after its rows were read: damaged if they are foreign or do not agree, and intact if they agree.
use Rattle.std.proofs.Common.{◌≡◌, inl, inr, ℕ, ◌+◌, ◌*◌, List, length, Option, Some, refl, sym, ◌∙◌, subst}
use Rattle.bench_base.specs.declared.refusals.BootFail.TheVariants.{Damaged}
use Rattle.nv_model.specs.declared.nv.Nv.{Ghosts}
use Rattle.nv_model.specs.Moments.{Image}
use Rattle.nv_store.specs.Rooms.{IsOtherSize, HasMixed}
use Rattle.nv_store.specs.Slot.{Held}
use Rattle.nv_store.specs.Store.{Shows, OnlyShows}
use Rattle.nv_store.specs.declared.causes.MountCause.{MountCause}
use Rattle.nv_store.specs.declared.causes.MountCause.TheVariants as mount
use Rattle.node_acts.specs.RowList.{RowList}
use Rattle.row_node.specs.Kept.{HoldsForeign, seen_shown, seen_long, foreign_shown}
use Rattle.row_node.specs.Shows.{ShowsRows, IsDamagedTable}
use Rattle.row_node.specs.ShowsLaws.{ReadsOne, intact}
use Rattle.row_store.specs.Boots.{boot_fail}
use Rattle.row_store.specs.Seen.{ReadsAs, AllRead, row_held, seen_in}
use Rattle.row_store.proofs.Kept.{filled_of}

reads_one : {R : Type 0} (decoded : ℕ → List ℕ → Option R) → ReadsOne (ReadsAs decoded)
reads_one decoded k x y p is other = let same : Some x ≡ Some y = sym is ∙ other in cc

module _ {R N : Type 0} (decoded : ℕ → List ℕ → Option R) (IsSound : RowList R → Type 0) (g : Ghosts N) (size cells : ℕ) (nv : N) where
  -- a mount that answers Damaged found another size or a mixed cell
  pub mount_damaged : (cause : MountCause) → boot_fail cause ≡ Damaged
      → ((n : ℕ) → cause ≡ mount.Size n → IsOtherSize (g.size nv) size cells)
      → ((k : ℕ) → cause ≡ mount.Mixed k → HasMixed g size cells nv k)
      → IsDamagedTable size cells (ReadsAs decoded) IsSound g nv
  mount_damaged mount.Power is other mixed = cc
  mount_damaged mount.Fault is other mixed = cc
  mount_damaged (mount.Size n) is other mixed = inl (other n refl)
  mount_damaged (mount.Mixed k) is other mixed =
      let has = mixed k refl in inr (has.only, inl (record { cell = k; inside = has.inside; mixed = has.mixed }))

  module _ (held : ℕ → Option Held) (shows : OnlyShows size 2 cells held (g.times nv) (g.content nv)) where
    abbrev rows : RowList R
    rows = seen_in decoded cells held

    long : length rows ≡ cells
    long = seen_long cells (ReadsAs decoded) (λ j. row_held decoded j (held j)) held

    rows_shown : AllRead decoded cells held → (image : List ℕ) → Shows size 2 cells held image → ShowsRows size cells (ReadsAs decoded) rows image
    rows_shown read image here = seen_shown cells (ReadsAs decoded) (λ j. row_held decoded j (held j)) held (filled_of decoded cells held read) size image here

    -- each image shows the rows
    pub images_show : AllRead decoded cells held → (image : List ℕ) → Image (g.times nv) image → ShowsRows size cells (ReadsAs decoded) rows image
    images_show read image now =
        subst (λ (c : List ℕ). ShowsRows size cells (ReadsAs decoded) rows c) (sym (shows.only image now)) (rows_shown read (g.content nv) shows.shows)

    pub foreign_damaged : HoldsForeign cells (ReadsAs decoded) held → IsDamagedTable size cells (ReadsAs decoded) IsSound g nv
    foreign_damaged foreign = inr (shows.only, inr (inl (foreign_shown size cells (ReadsAs decoded) held (g.content nv) shows.shows foreign)))

    pub unsound_damaged : AllRead decoded cells held → (IsSound rows → ⊥) → IsDamagedTable size cells (ReadsAs decoded) IsSound g nv
    unsound_damaged read breaks = inr (
      shows.only,
      inr (inr (record {
        rows = rows;
        long = long;
        shows = rows_shown read (g.content nv) shows.shows;
        breaks = breaks;
      })),
    )

    pub not_damaged : AllRead decoded cells held → IsSound rows → g.size nv ≡ cells * (2 * (5 + size)) → IsDamagedTable size cells (ReadsAs decoded) IsSound g nv → ⊥
    not_damaged read sound size_is =
        intact size cells (ReadsAs decoded) (reads_one decoded) IsSound g rows nv long sound (rows_shown read (g.content nv) shows.shows) size_is
