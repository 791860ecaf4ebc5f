-- A cell that is clear, slot by slot.
use Rattle.std.proofs.Common.{◌≡◌, ◌≢◌, inl, inr, Bool, true, false, not, ℕ, ◌+◌, ◌<◌, ◌≤◌, Option, Some, None, sym, ◌∙◌, ap, refl, arith}
use Rattle.std.proofs.lemmas.Bool.{cases_eq}
use Rattle.nv_store.specs.Slot.{Held, IsClear}
use Rattle.nv_store.specs.Scans.{open_count}
use Rattle.nv_bytes.specs.Newest.{IsRepeated}

pub not_true : (b : Bool) → not b ≡ true → b ≡ false
not_true true is = cc is
not_true false is = refl

-- a slot with a count is opened
pub open_with : (o : Option Held) (c : ℕ) → open_count o ≡ Some c → (a : Held) × (o ≡ Some a) × (a.0 ≡ c)
open_with None c is = cc is
open_with (Some a) c is = (a, refl, cc is)

pub count_open : (o : Option Held) (a : Held) → o ≡ Some a → open_count o ≡ Some a.0
count_open o a is = ap open_count is

count_same : (o : Option Held) (a : Held) (c : ℕ) → o ≡ Some a → open_count o ≡ Some c → a.0 ≡ c
count_same o a c is opened = some_same a.0 c (sym (ap open_count is) ∙ opened)
  where
    some_same : (m n : ℕ) → ◌≡◌ {A = Option ℕ} (Some m) (Some n) → m ≡ n
    some_same m n e = cc e

pub clear_fewer : (m n : ℕ) (slots : ℕ → Option Held) → m ≤ n → IsClear n slots → IsClear m slots
clear_fewer m n slots le clear = record {
  counted = λ i a lt is. clear.counted i a (omega (arith, lt, le)) is;
  distinct = λ i j a b lt lt' is is' same. clear.distinct i j a b (omega (arith, lt, le)) (omega (arith, lt', le)) is is' same;
}

-- with one slot more
pub clear_more : (p : ℕ) (slots : ℕ → Option Held) → ((a : Held) → slots p ≡ Some a → (0 < a.0) × (IsRepeated p slots a.0 → ⊥)) → IsClear p slots → IsClear (p + 1) slots
clear_more p slots fresh clear = record {
  counted = λ i a lt is. elim (cases_eq i p) [
    | inl here ↦ (fresh a (ap slots (sym here) ∙ is)).0
    | inr differs ↦ clear.counted i a (omega (arith, lt, differs)) is
  ];
  distinct = λ i j a b lt lt' is is' same. elim (cases_eq i p) [
    | inl here ↦ elim (cases_eq j p) [
      | inl there ↦ here ∙ sym there
      | inr differs ↦ absurd ((fresh a (ap slots (sym here) ∙ is)).1 (j, omega (arith, lt', differs), count_open (slots j) b is' ∙ ap (λ (n : ℕ). some n) (sym same)))
    ]
    | inr differs ↦ elim (cases_eq j p) [
      | inl there ↦ absurd ((fresh b (ap slots (sym there) ∙ is')).1 (i, omega (arith, lt, differs), count_open (slots i) a is ∙ ap (λ (n : ℕ). some n) same))
      | inr differs' ↦ clear.distinct i j a b (omega (arith, lt, differs)) (omega (arith, lt', differs')) is is' same
    ]
  ];
}
  where
    some : ℕ → Option ℕ
    some n = Some n

pub clear_open : (p c : ℕ) (slots : ℕ → Option Held) → open_count (slots p) ≡ Some c → c ≢ 0 → (IsRepeated p slots c → ⊥) → IsClear p slots → IsClear (p + 1) slots
clear_open p c slots opened some fresh clear = clear_more p slots each clear
  where
    each : (a : Held) → slots p ≡ Some a → (0 < a.0) × (IsRepeated p slots a.0 → ⊥)
    each a is =
        let same : a.0 ≡ c = count_same (slots p) a c is opened in
        (omega (arith, same, some), λ repeated. fresh (repeated.0, repeated.1, repeated.2 ∙ ap (λ (n : ℕ). some_of n) same))
      where
        some_of : ℕ → Option ℕ
        some_of n = Some n

pub not_zero : (p : ℕ) (slots : ℕ → Option Held) → open_count (slots p) ≡ Some 0 → IsClear (p + 1) slots → ⊥
not_zero p slots opened clear =
    let held = open_with (slots p) 0 opened in
    omega (arith, clear.counted p held.0 (omega arith) held.1, held.2)
