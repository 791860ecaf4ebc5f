-- What a running value knows, its storage shows.
use Rattle.std.proofs.Common.{◌≡◌, inl, inr, ℕ, ◌+◌, ◌*◌, ◌<◌, List, Bool, Option, Some, None, sym, ◌∙◌, ap, subst, arith}
use Rattle.std.proofs.lemmas.Bool.{cases_eq}
use Rattle.std.proofs.lemmas.Bool.Decides.{nat_tests}
use Rattle.nv_model.specs.Moments.{Times}
use Rattle.nv_store.specs.Slot.{Held, slots_at, current, IsClear}
use Rattle.nv_store.specs.Cells.{Known, shown}
use Rattle.nv_store.specs.Store.{one_held, Shows, OnlyShows, Holds}
use Rattle.nv_store.specs.Current.{current_top, current_none}
use Rattle.nv_store.specs.declared.head.Head.{Head}

pub none_held : (count : ℕ) (payload : List ℕ) → count ≡ 0 → one_held count payload ≡ None
none_held count payload is = grind (arith, nat_tests)

pub some_held : (count : ℕ) (payload : List ℕ) → 0 < count → one_held count payload ≡ Some (count, payload)
some_held count payload lt = grind (arith, nat_tests)

pub known_shown : (n : ℕ) (slots : ℕ → Option Held) (count place : ℕ) (gates : List Bool) (payload : List ℕ) → Known n slots count place gates payload
    → current n slots ≡ one_held count payload
known_shown n slots count place gates payload known = elim (cases_eq count 0) [
  | inl blank ↦ current_none n slots (known.blank blank) ∙ sym (none_held count payload blank)
  | inr filled ↦
      let some : 0 < count = omega arith in current_top n slots place (count, payload) (known.top some) ∙ sym (some_held count payload some)
]

-- of one cell, at the front of the storage
pub one_shows : (size n : ℕ) (count place : ℕ) (gates : List Bool) (payload image : List ℕ)
    → Known n (slots_at size 0 image) count place gates payload → Shows size n 1 (λ k. one_held count payload) image
one_shows size n count place gates payload image known = record {
  each = λ k lt. ap (λ (at : ℕ). shown size n at image) (front k lt) ∙ known_shown n (slots_at size 0 image) count place gates payload known;
  clear = λ k lt. subst (λ (at : ℕ). IsClear n (slots_at size at image)) (sym (front k lt)) known.clear;
}
  where
    front : (k : ℕ) → k < 1 → k * (n * (5 + size)) ≡ 0
    front k lt = let is : k ≡ 0 = omega arith in ap (λ (j : ℕ). j * (n * (5 + size))) is ∙ grind arith

-- of a value that hasn't failed
pub holds_shows : {size n : ℕ} {head : Head} {payload : List ℕ} {now : Times} {content : List ℕ} → Holds size n head payload now content
    → OnlyShows size n 1 (λ k. one_held head.count payload) now content
holds_shows {size} {n} {head} {payload} {now} {content} holds = record
    { only = holds.only; shows = one_shows size n head.count head.place head.gates payload content holds.known }
