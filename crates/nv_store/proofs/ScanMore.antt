-- One slot more is read.
use Rattle.std.proofs.Common.{◌≡◌, ◌⊎◌, inl, inr, ℕ, ◌+◌, ◌≤◌, ◌<◌, List, length, set, get_or, Bool, true, false, Option, Some, None, is_some, sym, ◌∙◌, ap, arith, refl}
use Rattle.std.proofs.lemmas.Bool.{cases_eq, cases_lt}
use Rattle.std.proofs.lemmas.List.{get_or-set_same, get_or-set_other}
use Rattle.nv_store.specs.Slot.{Held}
use Rattle.nv_store.specs.Store.{count_of}
use Rattle.nv_store.specs.Scans.{Scanned}

module _ (n : ℕ) (slots : ℕ → Option Held) (count place : ℕ) (gates : List Bool) (counts : List ℕ) (scanned : Scanned n slots count place gates counts) where
  pub more_shut : slots n ≡ None → Scanned (n + 1) slots count place gates counts
  more_shut none = record {
    gates_are = λ i lt. elim (cases_eq i n) [
      | inl at ↦ ap is_some (ap slots at ∙ none) ∙ sym (scanned.rest i (omega arith))
      | inr differs ↦ scanned.gates_are i (omega arith)
    ];
    counts_are = λ i lt. elim (cases_eq i n) [
      | inl at ↦ ap count_of (ap slots at ∙ none) ∙ sym (scanned.rest_counts i (omega arith))
      | inr differs ↦ scanned.counts_are i (omega arith)
    ];
    at_most = λ i lt. elim (cases_eq i n) [
      | inl at ↦ omega (arith, ap count_of (ap slots at ∙ none))
      | inr differs ↦ scanned.at_most i (omega arith)
    ];
    best = λ some. (omega (arith, (scanned.best some).0), (scanned.best some).1);
    rest = λ i le. scanned.rest i (omega arith);
    rest_counts = λ i le. scanned.rest_counts i (omega arith);
  }

  module _ (held : Held) (is : slots n ≡ Some held) (room : n < length gates) (room' : n < length counts) (count' place' : ℕ) (gates' : List Bool) (counts' : List ℕ)
      (gates_new : gates' ≡ set gates n true) (counts_new : counts' ≡ set counts n held.0)
      (better : count < held.0 → (count' ≡ held.0) × (place' ≡ n))
      (kept : held.0 ≤ count → (count' ≡ count) × (place' ≡ place)) where
    no_less : count ≤ count'
    no_less = elim (cases_lt count held.0) [
      | inl lt ↦ omega (arith, (better lt).0)
      | inr ge ↦ omega (arith, (kept ge).0)
    ]

    this : held.0 ≤ count'
    this = elim (cases_lt count held.0) [
      | inl lt ↦ omega (arith, (better lt).0)
      | inr ge ↦ omega (arith, (kept ge).0)
    ]

    pub more_open : Scanned (n + 1) slots count' place' gates' counts'
    more_open = record {
      gates_are = λ i lt. elim (cases_eq i n) [
        | inl at ↦ ap is_some (ap slots at ∙ is) ∙ sym (get_or-set_same gates n true false room) ∙ ap (λ (g : List Bool). get_or g n false) (sym gates_new) ∙ ap (λ (k : ℕ). get_or gates' k false) (sym at)
        | inr differs ↦ scanned.gates_are i (omega arith) ∙ sym (get_or-set_other gates n i true false differs) ∙ ap (λ (g : List Bool). get_or g i false) (sym gates_new)
      ];
      counts_are = λ i lt. elim (cases_eq i n) [
        | inl at ↦ ap count_of (ap slots at ∙ is) ∙ sym (get_or-set_same counts n held.0 0 room') ∙ ap (λ (g : List ℕ). get_or g n 0) (sym counts_new) ∙ ap (λ (k : ℕ). get_or counts' k 0) (sym at)
        | inr differs ↦ scanned.counts_are i (omega arith) ∙ sym (get_or-set_other counts n i held.0 0 differs) ∙ ap (λ (g : List ℕ). get_or g i 0) (sym counts_new)
      ];
      at_most = λ i lt. elim (cases_eq i n) [
        | inl at ↦ omega (arith, this, ap count_of (ap slots at ∙ is))
        | inr differs ↦ omega (arith, no_less, scanned.at_most i (omega arith))
      ];
      best = λ some. elim (cases_lt count held.0) [
        | inl lt ↦ (omega (arith, (better lt).1), ap count_of (ap slots (better lt).1 ∙ is) ∙ sym (better lt).0)
        | inr ge ↦
            let before = scanned.best (omega (arith, (kept ge).0)) in
            (omega (arith, (kept ge).1, before.0), ap (λ (k : ℕ). count_of (slots k)) (kept ge).1 ∙ before.1 ∙ sym (kept ge).0)
      ];
      rest = λ i le. ap (λ (g : List Bool). get_or g i false) gates_new ∙ get_or-set_other gates n i true false (omega arith) ∙ scanned.rest i (omega arith);
      rest_counts = λ i le. ap (λ (g : List ℕ). get_or g i 0) counts_new ∙ get_or-set_other counts n i held.0 0 (omega arith) ∙ scanned.rest_counts i (omega arith);
    }

pub cases_slot : (o : Option Held) → (o ≡ None) ⊎ ((a : Held) × (o ≡ Some a))
cases_slot None = inl refl
cases_slot (Some a) = inr (a, refl)
