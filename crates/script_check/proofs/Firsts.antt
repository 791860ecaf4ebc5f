-- The first word that no event has there.
use Rattle.std.proofs.Common.{◌≡◌, ◌≢◌, ℕ, suc, ◌+◌, ◌-◌, ◌≤◌, ◌<◌, ◌⊎◌, List, [], ◌∷◌, ◌++◌, length, take, refl, sym, subst, inl, inr, arith, codes}
use Rattle.bench_base.specs.declared.events.Event.TheVariants as ev
use Rattle.script_text.proofs.EachEvent.{no_keyword}
use Rattle.script_check.specs.Forms.{first_form, second_form, AreInPlace, IsTaken}
use Rattle.script_text.specs.Keywords.{keyword_word}
use Rattle.script_check.specs.Wrong.{BeginAnEvent, IsFirstWrong}
use Rattle.script_text.specs.declared.keyword.Keyword.{Keyword}
use Rattle.script_check.proofs.InPlace.{completed, fewer}
use Rattle.script_check.proofs.FormEvents.{made_first, made_second, none_begins}

-- so many words begin an event, and with one more they begin none
at_place : (n place : ℕ) (ws : List (List ℕ)) → place ≡ suc n → n ≤ length ws → BeginAnEvent (take n ws) → (n < length ws → BeginAnEvent (take (suc n) ws) → ⊥)
    → IsFirstWrong place ws
at_place n place ws is inside begin not = record {
  counted = omega (arith, is);
  inside = omega (arith, is, inside);
  before = (let back : n ≡ place - 1 = omega (arith, is) in subst (λ (m : ℕ). BeginAnEvent (take m ws)) back begin);
  not_with = λ there more. not (omega (arith, is, there)) (subst (λ (m : ℕ). BeginAnEvent (take m ws)) is more);
}

begin_first : (k : Keyword) (prefix : List (List ℕ)) → AreInPlace (first_form k) prefix → BeginAnEvent (keyword_word k ∷ prefix)
begin_first k prefix h =
    let more = completed (first_form k) prefix h in
    let event = made_first k (prefix ++ more.0) more.1 in
    (event.0, more.0, event.1, event.2)

begin_second : (k : Keyword) (prefix : List (List ℕ)) → AreInPlace (second_form k) prefix → BeginAnEvent (keyword_word k ∷ prefix)
begin_second k prefix h =
    let more = completed (second_form k) prefix h in
    let event = made_second k (prefix ++ more.0) more.1 in
    (event.0, more.0, event.1, event.2)

begin_none : (k : Keyword) (prefix : List (List ℕ)) → (AreInPlace (first_form k) prefix → ⊥) → (AreInPlace (second_form k) prefix → ⊥)
    → BeginAnEvent (keyword_word k ∷ prefix) → ⊥
begin_none k prefix n m b = none_begins prefix b.1 k n m b.0 b.2 b.3

-- after a keyword, if one form takes so many words and the other no more
pub wrong_behind : (k : Keyword) (ws : List (List ℕ)) (first second most place : ℕ) → IsTaken (first_form k) ws first → IsTaken (second_form k) ws second
    → first ≤ most → second ≤ most → (most ≡ first) ⊎ (most ≡ second) → place ≡ most + 2 → IsFirstWrong place (keyword_word k ∷ ws)
wrong_behind k ws first second most place one two le le' which is =
    at_place (suc most) place (keyword_word k ∷ ws) (omega (arith, is)) (omega (arith, inside)) begin not
  where
    inside : most ≤ length ws
    inside = elim which [ inl e ↦ omega (arith, e, one.inside) | inr e ↦ omega (arith, e, two.inside) ]

    begin : BeginAnEvent (keyword_word k ∷ take most ws)
    begin =
        elim which [
          | inl e ↦ begin_first k (take most ws) (subst (λ (m : ℕ). AreInPlace (first_form k) (take m ws)) (sym e) one.are)
          | inr e ↦ begin_second k (take most ws) (subst (λ (m : ℕ). AreInPlace (second_form k) (take m ws)) (sym e) two.are)
        ]

    not : suc most < length (keyword_word k ∷ ws) → BeginAnEvent (keyword_word k ∷ take (suc most) ws) → ⊥
    not there = begin_none k (take (suc most) ws)
        (λ h. one.no_more (omega (arith, there, le)) (fewer (first_form k) (suc first) (suc most) ws (omega (arith, le)) h))
        (λ h. two.no_more (omega (arith, there, le')) (fewer (second_form k) (suc second) (suc most) ws (omega (arith, le')) h))

-- a keyword alone
pub wrong_alone : (k : Keyword) (place : ℕ) → place ≡ 2 → IsFirstWrong place (keyword_word k ∷ [])
wrong_alone k place is = at_place 1 place (keyword_word k ∷ []) (omega (arith, is)) (omega arith) (begin_first k [] tt) (λ more begin. omega (arith, more))

-- a line whose first word is no keyword
pub wrong_first : (w : List ℕ) (ws : List (List ℕ)) (place : ℕ) → place ≡ 1 → ((k : Keyword) → w ≢ keyword_word k) → IsFirstWrong place (w ∷ ws)
wrong_first w ws place is none =
    at_place 0 place (w ∷ ws) is (omega arith) (ev.End, codes "end" ∷ [], tt, refl) (λ some b. no_keyword w b.1 none b.0 b.2 b.3)
