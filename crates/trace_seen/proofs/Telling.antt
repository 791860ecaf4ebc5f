-- What is recorded of marks when more of them are debited.
use Rattle.std.proofs.Common.{◌≡◌, ◌⊎◌, inl, inr, ℕ, Bool, true, false, List, IsTrue, true≢false, bytes_eq, Option, Some, None, refl, sym, ◌∙◌, ap, subst}
use Rattle.std.specs.Prelude.{◌↔◌}
use Rattle.std.proofs.lemmas.Option.{same_Some, none-some}
use Rattle.std.proofs.lemmas.Slice.Eq.{bytes_eq-Decides}
use Rattle.trace_seen.specs.declared.{marks.Seen.Seen, marks.SeenMarks.SeenMarks}
use Rattle.trace_seen.specs.Marks.{seen_as, added, Adds, Tells, Ticks, TicksAt}

-- a mark that had P
module _ (P Q S : Type 0) (more : Q ↔ (P ⊎ S)) where
  one_told : (o n : Option Seen) → TicksAt S o n → ((x : Seen) → o ≡ Some x → IsTrue x.is_debited ↔ P) → (y : Seen) → n ≡ Some y → IsTrue y.is_debited ↔ Q
  one_told None n ticks told y is = absurd (none-some _ (sym ticks ∙ is))
  one_told (Some x) n ticks told y is =
      let same : ticks.0 ≡ y = same_Some _ _ (sym ticks.1 ∙ is) in
      let was = told x refl in
      subst (λ (z : Seen). IsTrue z.is_debited ↔ Q) same (
        λ yes. more.1 (elim (ticks.3.0 yes) [ inl before ↦ inl (was.0 before) | inr now ↦ inr now ]),
        λ q. ticks.3.1 (elim (more.0 q) [ inl before ↦ inl (was.1 before) | inr now ↦ inr now ]),
      )

-- each mark is recorded as debited if and only if P held of it, or it is one of those that are debited now
pub tells_more : (P Q S : List ℕ → Type 0) (old new : SeenMarks) → ((mark : List ℕ) → Q mark ↔ (P mark ⊎ S mark)) → Ticks S old new → Tells P old → Tells Q new
tells_more P Q S old new more ticks tells mark y is = one_told (P mark) (Q mark) (S mark) (more mark) (seen_as old mark) (seen_as new mark) (ticks.each mark) (λ x was. tells mark x was) y is

-- no mark was seen
pub tells_none : (P : List ℕ → Type 0) (s : SeenMarks) → ((mark : List ℕ) → seen_as s mark ≡ None) → Tells P s
tells_none P s none mark x is = absurd (none-some x (sym (none mark) ∙ is))

-- the same is recorded of each mark
pub tells_alike : (P : List ℕ → Type 0) (old new : SeenMarks) → ((mark : List ℕ) → seen_as new mark ≡ seen_as old mark) → Tells P old → Tells P new
tells_alike P old new same tells mark x is = tells mark x (sym (same mark) ∙ is)

-- one more mark was seen, and P does not hold of it
pub tells_added : (P : List ℕ → Type 0) (mark : List ℕ) (line : ℕ) (old new : SeenMarks) → (P mark → ⊥) → Adds mark line old new → Tells P old → Tells P new
tells_added P mark line old new none adds tells q y is = by (bytes_eq mark q) refl
  where
    one : (o : Option Seen) → seen_as old mark ≡ o → (x : Seen) → added line o ≡ x → IsTrue x.is_debited ↔ P mark
    one None at x same = subst (λ (z : Seen). IsTrue z.is_debited ↔ P mark) same (λ yes. absurd (true≢false (sym yes)), λ p. absurd (none p))
    one (Some z) at x same = subst (λ (w : Seen). IsTrue w.is_debited ↔ P mark) same (tells mark z at)

    by : (b : Bool) → bytes_eq mark q ≡ b → IsTrue y.is_debited ↔ P q
    by true same =
        let here : mark ≡ q = (bytes_eq-Decides mark q).0 same in
        let found : added line (seen_as old mark) ≡ y = same_Some _ _ (sym adds.here ∙ ap (seen_as new) here ∙ is) in
        subst (λ (l : List ℕ). IsTrue y.is_debited ↔ P l) here (one (seen_as old mark) refl y found)
    by false other = tells q y (sym (adds.others q (λ same. true≢false (sym ((bytes_eq-Decides mark q).1 same) ∙ other))) ∙ is)

-- == marks with an unchanged record ==

-- what is recorded of a mark stays, if it is not debited now, or was not seen
pub same_at : (S : Type 0) (o : Option Seen) → (S → ⊥) → TicksAt S o o
same_at S None none = refl
same_at S (Some x) none = (x, refl, refl, (λ yes. inl yes, λ e. elim e [ inl before ↦ before | inr now ↦ absurd (none now) ]))

unseen_at : (S : Type 0) (o : Option Seen) → o ≡ None → TicksAt S o o
unseen_at S None none = refl
unseen_at S (Some x) none = absurd (cc)

pub ticks_unseen : (S : List ℕ → Type 0) (s : SeenMarks) → ((mark : List ℕ) → seen_as s mark ≡ None) → Ticks S s s
ticks_unseen S s none = record { asked_same = refl; each = λ q. unseen_at (S q) (seen_as s q) (none q) }

-- the marks with S are those with R
at_alike : (R S : Type 0) (o n : Option Seen) → R ↔ S → TicksAt R o n → TicksAt S o n
at_alike R S None n same ticks = ticks
at_alike R S (Some x) n same ticks = (
  ticks.0,
  ticks.1,
  ticks.2,
  (
    λ yes. elim (ticks.3.0 yes) [ inl before ↦ inl before | inr now ↦ inr (same.0 now) ],
    λ e. ticks.3.1 (elim e [ inl before ↦ inl before | inr now ↦ inr (same.1 now) ]),
  ),
)

pub ticks_alike : (R S : List ℕ → Type 0) (old new : SeenMarks) → ((mark : List ℕ) → R mark ↔ S mark) → Ticks R old new → Ticks S old new
ticks_alike R S old new same ticks = record { asked_same = ticks.asked_same; each = λ q. at_alike (R q) (S q) (seen_as old q) (seen_as new q) (same q) (ticks.each q) }
