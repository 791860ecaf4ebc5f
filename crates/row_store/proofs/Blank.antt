-- An image whose cells are blank shows no row.
use Rattle.std.proofs.Common.{◌≡◌, inl, inr, ℕ, ◌*◌, List, length, Option, Some, None, refl, subst, arith}
use Rattle.std.proofs.lemmas.Bool.{cases_lt}
use Rattle.std.proofs.lemmas.List.{get_or_past}
use Rattle.nv_model.specs.Moments.{Times, Image, Nested, Only}
use Rattle.nv_store.specs.Mounts.{Mounts}
use Rattle.nv_store.specs.Slot.{Held}
use Rattle.nv_store.specs.Store.{Shows}
use Rattle.node_acts.specs.RowList.{RowList, row_at}
use Rattle.row_node.specs.Shows.{IsHeldAs, ShowsRows}

module _ {R : Type 0} (size cells : ℕ) (reads : ℕ → R → List ℕ → Type 0) (rows : RowList R) (image : List ℕ) where
  none_held : (k : ℕ) (o : Option (ℕ × R)) → IsHeldAs (reads k) o None → o ≡ None
  none_held k None held = refl
  none_held k (Some x) held = absurd held

  -- the list of so many cells that such an image shows has none
  pub none_seen : length rows ≡ cells → Shows size 2 cells (λ k. None) image → ShowsRows size cells reads rows image → (k : ℕ) → row_at rows k ≡ None
  none_seen long blank shows k = elim (cases_lt k cells) [
    | inl lt ↦ none_held k (row_at rows k) (subst (λ (h : Option Held). IsHeldAs (reads k) (row_at rows k) h) (blank.each k lt) (shows.each k lt))
    | inr le ↦ get_or_past rows k None (omega (arith, le, long))
  ]

-- storage that was only read has no other image than before
pub still_only : (before now : Times) (content image : List ℕ) → Mounts before now → Nested now → Only before content → Image now image → image ≡ content
still_only before now content image mounts nested only is = only image (mounts.images image (nested before.moment now.moment image mounts.time.later is))
