-- The cells of an image and the image.
use Rattle.std.proofs.Common.{ℕ, ◌+◌, ◌*◌, List, Option, sym, subst}
use Rattle.nv_store.specs.Slot.{Held}
use Rattle.node_acts.specs.RowList.{row_at}
use Rattle.row_node.specs.Shows.{IsHeldAs}
use Rattle.nv_bytes.specs.Cells.{shown_same, clear_here, clear_there}
use Rattle.node_images.specs.Joined.{Joins}

pub joins : {R : Type 0} (size cells : ℕ) (reads : ℕ → R → List ℕ → Type 0) → Joins size cells reads
joins {R} size cells reads s image = (
  λ shows k lt. record {
    held = subst (λ (h : Option Held). IsHeldAs (reads k) (row_at s k) h) (sym (shown_same size 2 (k * (2 * (5 + size))) image)) (shows.each k lt);
    clear = clear_here size 2 (k * (2 * (5 + size))) image (shows.clear k lt);
  },
  λ each. record {
    each = λ k lt. subst (λ (h : Option Held). IsHeldAs (reads k) (row_at s k) h) (shown_same size 2 (k * (2 * (5 + size))) image) (each k lt).held;
    clear = λ k lt. clear_there size 2 (k * (2 * (5 + size))) image (each k lt).clear;
  },
)
