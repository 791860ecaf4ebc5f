-- Sums over a list.
use Rattle.std.proofs.Common.{◌≡◌, ℕ, ◌+◌, ◌<◌, List, [], ◌∷◌, length, get_or, suc, refl, sym, ap₂, ◌∙◌, arith}
use Rattle.std.specs.Prelude.{sum_by}
use Rattle.std.proofs.lemmas.List.Sums.{sum_by-cons}

-- of what is the same at each place
pub sums_alike : {X : Type 0} (z : X) (f h : X → ℕ) (l : List X) → ((j : ℕ) → j < length l → f (get_or l j z) ≡ h (get_or l j z)) → sum_by f l ≡ sum_by h l
sums_alike z f h [] same = refl
sums_alike z f h (x ∷ l) same =
    sum_by-cons f x l ∙ (ap₂ (λ (a b : ℕ). a + b) (same 0 (omega arith)) (sums_alike z f h l (λ j lt. same (suc j) (omega (arith, lt)))) ∙ sym (sum_by-cons h x l))
