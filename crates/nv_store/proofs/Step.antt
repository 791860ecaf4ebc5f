-- A commit's step on the slots of one cell.
use Rattle.std.proofs.Common.{◌≡◌, ◌≢◌, ◌⊎◌, inl, inr, ℕ, ◌+◌, ◌≤◌, ◌<◌, List, length, set, get_or, Bool, true, false, Option, Some, None, is_some, sym, ◌∙◌, ap, arith, refl}
use Rattle.std.proofs.lemmas.Bool.{cases_eq}
use Rattle.std.proofs.lemmas.List.{get_or-set_same, get_or-set_other}
use Rattle.nv_store.specs.Slot.{Held, current, IsClear}
use Rattle.nv_store.specs.Cells.{Top, Known}
use Rattle.nv_store.specs.Steps.{IsOrHolds}
use Rattle.nv_store.specs.Current.{current_top, current_none, current_same, clear_same}

module _ (n : ℕ) (slots : ℕ → Option Held) (count place : ℕ) (gates : List Bool) (payload : List ℕ) (known : Known n slots count place gates payload) (t : ℕ) (inside : t < n) (other : 0 < count → t ≢ place) where
  at_most : (i : ℕ) (a : Held) → i < n → slots i ≡ Some a → a.0 ≤ count
  at_most i a lt is = elim (cases_eq count 0) [
    | inl blank ↦ cc (known.blank blank i lt, is)
    | inr filled ↦
        let top = known.top (omega arith) in
        elim (cases_eq i place) [
          | inl same ↦
              let e : a ≡ (count, payload) = cc (is, ap slots same, top.here) in omega (arith, ap (λ (h : Held). h.0) e)
          | inr differs ↦ omega (arith, top.below i a lt differs is)
        ]
  ]

  module _ (slots' : ℕ → Option Held) (rest : (i : ℕ) → i < n → i ≢ t → slots' i ≡ slots i) where
    same_all : slots' t ≡ slots t → (i : ℕ) → i < n → slots' i ≡ slots i
    same_all same i lt = elim (cases_eq i t) [
      | inl is ↦ ap slots' is ∙ same ∙ ap slots (sym is)
      | inr differs ↦ rest i lt differs
    ]

    module _ (shut : slots' t ≡ None) where
      was_open : (i : ℕ) (a : Held) → i < n → slots' i ≡ Some a → slots i ≡ Some a
      was_open i a lt is = elim (cases_eq i t) [
        | inl at ↦ cc (ap slots' at, is, shut)
        | inr differs ↦ sym (rest i lt differs) ∙ is
      ]

      shut_clear : IsClear n slots'
      shut_clear = record {
        counted = λ i a lt is. known.clear.counted i a lt (was_open i a lt is);
        distinct = λ i j a b lt lt' is is'. known.clear.distinct i j a b lt lt' (was_open i a lt is) (was_open j b lt' is');
      }

      shut_shows : current n slots' ≡ current n slots
      shut_shows = elim (cases_eq count 0) [
        | inl blank ↦ current_none n slots' (none blank) ∙ sym (current_none n slots (known.blank blank))
        | inr filled ↦
            let top = known.top (omega arith) in
            let here : slots' place ≡ slots place = rest place top.inside (λ e. other (omega arith) (sym e)) in
            current_top n slots' place (count, payload) (record {
              inside = top.inside;
              here = here ∙ top.here;
              below = λ i a lt differs is. top.below i a lt differs (was_open i a lt is);
            }) ∙ sym (current_top n slots place (count, payload) top)
      ]
        where
          none : count ≡ 0 → (i : ℕ) → i < n → slots' i ≡ None
          none blank i lt = elim (cases_eq i t) [
            | inl at ↦ ap slots' at ∙ shut
            | inr differs ↦ rest i lt differs ∙ known.blank blank i lt
          ]

    module _ (held : Held) (next : held.0 ≡ count + 1) (fills : slots' t ≡ Some held) where
      pub filled_top : Top n slots' t held
      filled_top = record {
        inside = inside;
        here = fills;
        below = λ i a lt differs is. omega (arith, at_most i a lt (sym (rest i lt differs) ∙ is), next);
      }

      is_held : (a : Held) → slots' t ≡ Some a → a.0 ≡ count + 1
      is_held a is = let e : a ≡ held = cc (is, fills) in ap (λ (h : Held). h.0) e ∙ next

      pub filled_clear : IsClear n slots'
      filled_clear = record {
        counted = λ i a lt is. elim (cases_eq i t) [
          | inl at ↦ omega (arith, is_held a (ap slots' (sym at) ∙ is))
          | inr differs ↦ known.clear.counted i a lt (sym (rest i lt differs) ∙ is)
        ];
        distinct = λ i j a b lt lt' is is' same. elim (cases_eq i t) [
          | inl at ↦ elim (cases_eq j t) [
            | inl at' ↦ at ∙ sym at'
            | inr differs' ↦ absurd (omega (arith, is_held a (ap slots' (sym at) ∙ is), at_most j b lt' (sym (rest j lt' differs') ∙ is'), same))
          ]
          | inr differs ↦ elim (cases_eq j t) [
            | inl at' ↦ absurd (omega (arith, is_held b (ap slots' (sym at') ∙ is'), at_most i a lt (sym (rest i lt differs) ∙ is), same))
            | inr differs' ↦ known.clear.distinct i j a b lt lt' (sym (rest i lt differs) ∙ is) (sym (rest j lt' differs') ∙ is') same
          ]
        ];
      }

    -- at every moment
    pub step_clear : (held : Held) → held.0 ≡ count + 1 → IsOrHolds (slots t) held (slots' t) → IsClear n slots'
    step_clear held next (inl same) = clear_same n slots slots' (same_all same) known.clear
    step_clear held next (inr (inl shut)) = shut_clear shut
    step_clear held next (inr (inr fills)) = filled_clear held next fills

    pub step_shows : (held : Held) → held.0 ≡ count + 1 → IsOrHolds (slots t) held (slots' t) → (current n slots' ≡ current n slots) ⊎ (current n slots' ≡ Some held)
    step_shows held next (inl same) = inl (current_same n slots slots' (same_all same))
    step_shows held next (inr (inl shut)) = inl (shut_shows shut)
    step_shows held next (inr (inr fills)) = inr (current_top n slots' t held (filled_top held next fills))

    -- once it is done
    pub step_known : (new : List ℕ) → t < length gates → slots' t ≡ Some (count + 1, new) → Known n slots' (count + 1) t (set gates t true) new
    step_known new room fills = record {
      clear = filled_clear (count + 1, new) refl fills;
      gates_are = λ i lt. elim (cases_eq i t) [
        | inl at ↦ ap (λ (k : ℕ). is_some (slots' k)) at ∙ ap is_some fills ∙ sym (get_or-set_same gates t true false room) ∙ ap (λ (k : ℕ). get_or (set gates t true) k false) (sym at)
        | inr differs ↦ ap is_some (rest i lt differs) ∙ known.gates_are i lt ∙ sym (get_or-set_other gates t i true false differs)
      ];
      blank = λ none. absurd (omega arith);
      top = λ some. filled_top (count + 1, new) refl fills;
    }
