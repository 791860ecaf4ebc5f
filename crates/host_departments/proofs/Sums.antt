-- Sums of the first n.
use Rattle.std.proofs.Common.{◌≡◌, ◌≢◌, inl, inr, ℕ, zero, suc, ◌+◌, ◌<◌, refl, ap, ap₂, ◌∙◌, arith}
use Rattle.std.proofs.lemmas.Bool.{cases_eq}
use Rattle.host_departments.specs.Rows.{sum_to}

pub sum_none : (f : ℕ → ℕ) → sum_to 0 f ≡ 0
unfolding sum_to
sum_none f = refl

pub sum_next : (n : ℕ) (f : ℕ → ℕ) → sum_to (n + 1) f ≡ sum_to n f + f n
unfolding sum_to
sum_next n f = let next : n + 1 ≡ suc n = omega arith in ap (λ (m : ℕ). sum_to m f) next

pub sum_same : (n : ℕ) (f g : ℕ → ℕ) → ((i : ℕ) → i < n → f i ≡ g i) → sum_to n f ≡ sum_to n g
unfolding sum_to
sum_same zero f g same = refl
sum_same (suc n) f g same = ap₂ (λ (a b : ℕ). a + b) (sum_same n f g (λ i lt. same i (omega (arith, lt)))) (same n (omega arith))

-- one more than the others, where there was nothing
pub sum_more : (n k p : ℕ) (f g : ℕ → ℕ) → k < n → f k ≡ 0 → g k ≡ p → ((i : ℕ) → i ≢ k → g i ≡ f i) → sum_to n g ≡ sum_to n f + p
unfolding sum_to
sum_more zero k p f g lt none here others = absurd (omega (arith, lt))
sum_more (suc n) k p f g lt none here others = elim (cases_eq n k) [
  | inl last ↦
      let prefix : sum_to n g ≡ sum_to n f = sum_same n g f (λ i less. others i (λ is. omega (arith, less, last, is))) in
      let mine : g n ≡ p = ap g last ∙ here in
      let nothing : f n ≡ 0 = ap f last ∙ none in
      omega (arith, prefix, mine, nothing)
  | inr differs ↦
      let prefix : sum_to n g ≡ sum_to n f + p = sum_more n k p f g (omega (arith, lt, differs)) none here others in
      let mine : g n ≡ f n = others n differs in
      omega (arith, prefix, mine)
]
