-- What a table knows, its storage shows.
use Rattle.std.proofs.Common.{◌≡◌, ℕ, zero, suc, ◌+◌, ◌*◌, ◌<◌, List, [], ◌∷◌, length, Option, Some, refl, sym, ◌∙◌, ap, arith}
use Rattle.std.specs.Prelude.{slice_get}
use Rattle.nv_store.specs.Slot.{slots_at}
use Rattle.nv_model.specs.Moments.{Times}
use Rattle.nv_store.specs.Store.{Shows, OnlyShows, one_held}
use Rattle.nv_store.specs.Tables.{TableKnown, TableHolds, table_held, row_held}
use Rattle.nv_store.specs.Knows.{known_shown}
use Rattle.nv_store.specs.declared.head.Head.{Head}

pub item_at : {A : Type 0} (items : List A) (k : ℕ) → k < length items → (item : A) × (slice_get items k ≡ Some item)
item_at [] k lt = absurd (omega arith)
item_at (item ∷ items) zero lt = (item, refl)
item_at (item ∷ items) (suc k) lt = item_at items k (omega arith)

pub held_at : (heads : List Head) (payloads : List (List ℕ)) (k : ℕ) (head : Head) (payload : List ℕ) → slice_get heads k ≡ Some head
    → slice_get payloads k ≡ Some payload → table_held heads payloads k ≡ one_held head.count payload
held_at heads payloads k head payload at at' = ap (λ (o : Option Head). row_held o (slice_get payloads k)) at
    ∙ ap (λ (o : Option (List ℕ)). row_held (Some head) o) at'

pub table_shows : (size n : ℕ) (heads : List Head) (payloads : List (List ℕ)) (image : List ℕ) → length payloads ≡ length heads
    → TableKnown size n (length heads) image heads payloads → Shows size n (length heads) (table_held heads payloads) image
table_shows size n heads payloads image same known = record {
  each = λ k lt.
      let head = item_at heads k lt in
      let payload = item_at payloads k (omega (arith, same)) in
      known_shown n (slots_at size (k * (n * (5 + size))) image) head.0.count head.0.place head.0.gates payload.0
      (known.each k head.0 payload.0 lt head.1 payload.1) ∙ sym (held_at heads payloads k head.0 payload.0 head.1 payload.1);
  clear = λ k lt.
      let head = item_at heads k lt in
      let payload = item_at payloads k (omega (arith, same)) in
      (known.each k head.0 payload.0 lt head.1 payload.1).clear;
}

-- of a table that hasn't failed
pub table_only : {size : ℕ} {heads : List Head} {payloads : List (List ℕ)} {now : Times} {content : List ℕ} → length payloads ≡ length heads
    → TableHolds size (length heads) heads payloads now content → OnlyShows size 2 (length heads) (table_held heads payloads) now content
table_only {size} {heads} {payloads} {now} {content} same holds = record
    { only = holds.only; shows = table_shows size 2 heads payloads content same holds.known }
