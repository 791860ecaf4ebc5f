-- The open slot with the greatest count.
use Rattle.std.proofs.Common.{◌≡◌, ◌≢◌, ◌⊎◌, inl, inr, ℕ, zero, suc, ◌+◌, ◌*◌, ◌≤◌, ◌<◌, Option, Some, None, sym, ◌∙◌, ap, arith, refl}
use Rattle.std.proofs.lemmas.Bool.{cases_eq, cases_order}
use Rattle.std.proofs.lemmas.Bool.Decides.{nat_tests}
use Rattle.std.proofs.Math.Nat.{mul-le-mul_right}
use Rattle.nv_store.specs.Slot.{Held, newer, current, IsClear}
use Rattle.nv_store.specs.Cells.{Top}

newer_left : (a : Held) (o : Option Held) → ((b : Held) → o ≡ Some b → b.0 < a.0) → newer (Some a) o ≡ Some a
newer_left a None below = refl
newer_left a (Some b) below = grind (arith, nat_tests, below b refl)

newer_right : (o : Option Held) (b : Held) → ((a : Held) → o ≡ Some a → a.0 < b.0) → newer o (Some b) ≡ Some b
newer_right None b below = refl
newer_right (Some a) b below = grind (arith, nat_tests, below a refl)

newer_below : (o p : Option Held) (n : ℕ) (c : Held) → ((a : Held) → o ≡ Some a → a.0 < n) → ((b : Held) → p ≡ Some b → b.0 < n) → newer o p ≡ Some c → c.0 < n
newer_below None p n c left right is = right c is
newer_below (Some a) None n c left right is = left c is
newer_below (Some a) (Some b) n c left right is = elim (cases_eq_test a.0 b.0) [
  | inl lt ↦ right c (sym (pick_right lt) ∙ is)
  | inr ge ↦ left c (sym (pick_left ge) ∙ is)
]
  where
    cases_eq_test : (x y : ℕ) → (x < y) ⊎ (y ≤ x)
    cases_eq_test x y = elim (cases_order x y) [
      | inl is ↦ inr (omega arith)
      | inr (inl lt) ↦ inl lt
      | inr (inr gt) ↦ inr (omega arith)
    ]

    pick_right : a.0 < b.0 → newer (Some a) (Some b) ≡ Some b
    pick_right lt = grind (arith, nat_tests)

    pick_left : b.0 ≤ a.0 → newer (Some a) (Some b) ≡ Some a
    pick_left ge = grind (arith, nat_tests)

current_below : (n : ℕ) (slots : ℕ → Option Held) (m : ℕ) (c : Held) → ((i : ℕ) (a : Held) → i < n → slots i ≡ Some a → a.0 < m)
    → current n slots ≡ Some c → c.0 < m
current_below zero slots m c below is = cc is
current_below (suc n) slots m c below is =
    newer_below (current n slots) (slots n) m c (λ a here. current_below n slots m a (λ i b lt. below i b (omega arith)) here)
    (λ b here. below n b (omega arith) here) is

pub current_top : (n : ℕ) (slots : ℕ → Option Held) (place : ℕ) (held : Held) → Top n slots place held → current n slots ≡ Some held
current_top zero slots place held top = absurd (omega (arith, top.inside))
current_top (suc n) slots place held top = elim (cases_eq place n) [
  | inl is ↦
      let here : slots n ≡ Some held = ap slots (sym is) ∙ top.here in
      ap (λ (o : Option Held). newer (current n slots) o) here
      ∙ newer_right (current n slots) held (λ a was. current_below n slots held.0 a (λ i b lt. top.below i b (omega arith) (omega (arith, is))) was)
  | inr differs ↦
      let inside : place < n = omega (arith, top.inside) in
      ap (λ (o : Option Held). newer o (slots n))
      (current_top n slots place held (record { inside = inside; here = top.here; below = λ i a lt. top.below i a (omega arith) }))
      ∙ newer_left held (slots n) (λ b was. top.below n b (omega arith) (λ e. differs (sym e)) was)
]

pub current_none : (n : ℕ) (slots : ℕ → Option Held) → ((i : ℕ) → i < n → slots i ≡ None) → current n slots ≡ None
current_none zero slots none = refl
current_none (suc n) slots none = ap (λ (o : Option Held). newer o (slots n)) (current_none n slots (λ i lt. none i (omega arith))) ∙ none n (omega arith)

pub current_same : (n : ℕ) (slots slots' : ℕ → Option Held) → ((i : ℕ) → i < n → slots' i ≡ slots i) → current n slots' ≡ current n slots
current_same zero slots slots' same = refl
current_same (suc n) slots slots' same = ap (λ (o : Option Held). newer o (slots' n)) (current_same n slots slots' (λ i lt. same i (omega arith)))
    ∙ ap (λ (o : Option Held). newer (current n slots) o) (same n (omega arith))

pub clear_same : (n : ℕ) (slots slots' : ℕ → Option Held) → ((i : ℕ) → i < n → slots' i ≡ slots i) → IsClear n slots → IsClear n slots'
clear_same n slots slots' same clear = record {
  counted = λ i a lt is. clear.counted i a lt (sym (same i lt) ∙ is);
  distinct = λ i j a b lt lt' is is'. clear.distinct i j a b lt lt' (sym (same i lt) ∙ is) (sym (same j lt') ∙ is');
}

-- two slots don't overlap
pub apart : (i t w : ℕ) → i ≢ t → (i * w + w ≤ t * w) ⊎ (t * w + w ≤ i * w)
apart i t w differs = elim (cases_order i t) [
  | inl is ↦ absurd (differs is)
  | inr (inl lt) ↦ inl (omega (arith, mul-le-mul_right {m = suc i} {n = t} w (omega arith), step i))
  | inr (inr gt) ↦ inr (omega (arith, mul-le-mul_right {m = suc t} {n = i} w (omega arith), step t))
]
  where
    step : (k : ℕ) → suc k * w ≡ k * w + w
    step k = grind arith
