-- The slot that the next commit fills.
use Rattle.std.proofs.Common.{◌≡◌, inl, inr, ℕ, ◌+◌, ◌%◌, ◌<◌, List, Bool, true, Option, Some, None, refl, sym, ◌∙◌, ap, arith}
use Rattle.std.specs.Prelude.{false}
use Rattle.nv_model.specs.Meters.{UsesExactly}
use Rattle.nv_store.specs.Store.{commit_calls, UsesCommit}
use Rattle.std.proofs.lemmas.Bool.{cases_eq, ne_eqb}
use Rattle.nv_store.specs.Slot.{Held}
use Rattle.nv_store.specs.Cells.{Known, next_of}
use Rattle.nv_store.specs.Fills.{IsNextSlot}

next_blank : (count place n : ℕ) → count ≡ 0 → next_of count place n ≡ 0
next_blank count place n blank = ap (λ (c : ℕ). next_of c place n) blank

next_after : (count place n : ℕ) → 0 < count → next_of count place n ≡ (place + 1) % n
next_after count place n some = rw (ne_eqb count 0 (λ (none : count ≡ 0). omega arith)) refl

pub next_slot : (n : ℕ) (slots : ℕ → Option Held) (count place : ℕ) (gates : List Bool) (payload : List ℕ) → Known n slots count place gates payload
    → (t : ℕ) → t < n → t ≡ next_of count place n → IsNextSlot n slots t
next_slot n slots count place gates payload known t inside is = record {
  inside = inside;
  first = λ none. elim (cases_eq count 0) [
    | inl blank ↦ is ∙ next_blank count place n blank
    | inr some ↦
        let top = known.top (omega arith) in
        let filled : slots place ≡ Some (count, payload) = top.here in
        let empty : slots place ≡ None = none place top.inside in
        cc (filled, empty)
  ];
  after = λ current held top. elim (cases_eq count 0) [
    | inl blank ↦
        let filled : slots current ≡ Some held = top.here in
        let empty : slots current ≡ None = known.blank blank current top.inside in
        cc (filled, empty)
    | inr filled ↦
        let own = known.top (omega arith) in
        elim (cases_eq current place) [
          | inl same ↦ is ∙ next_after count place n (omega arith) ∙ ap (λ (p : ℕ). (p + 1) % n) (sym same)
          | inr differs ↦
              let less = own.below current held top.inside differs top.here in
              let more = top.below place (count, payload) own.inside (λ e. differs (sym e)) own.here in
              absurd (omega (arith, less, more))
        ]
  ];
}

-- four calls or six
pub commit_uses : (b : Bool) (before now : Option ℕ) → UsesExactly (commit_calls b) before now → UsesCommit before now
commit_uses true before now six = inr six
commit_uses false before now four = inl four
