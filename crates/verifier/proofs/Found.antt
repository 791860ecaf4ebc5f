-- The first item of a list that passes a test, by its position.
use Rattle.std.proofs.Common.{◌≡◌, ℕ, ◌<◌, ◌≤◌, List, length, get_or, Option, Some, None, Bool, true, false, cond, refl, ap, subst, ◌∙◌, arith}
use Rattle.std.specs.Prelude.{nat_lt, position}
use Rattle.std.specs.List.{position_or_len}
use Rattle.std.proofs.lemmas.Bool.Decides.{nat_tests}
use Rattle.std.proofs.lemmas.List.Sums.{position_or_len_is, fails_before_first, passes_at_first}
use Rattle.std.proofs.lemmas.Bool.{ltb-true, ltb-false}

less : (m n : ℕ) → m < n → nat_lt m n ≡ true
less m n lt = grind (arith, nat_tests)

not_under : (m n : ℕ) → n ≤ m → nat_lt m n ≡ false
not_under m n le = grind (arith, nat_tests)

module _ {X : Type 0} (p : X → Bool) (xs : List X) (other : X) where
  at : ℕ
  at = position_or_len p xs

  pub position_is : (k : ℕ) → k < length xs → p (get_or xs k other) ≡ true → ((j : ℕ) → j < k → p (get_or xs j other) ≡ false) → position p xs ≡ Some k
  position_is k lt passes before =
      let first : position_or_len p xs ≡ k = position_or_len_is p xs k other (omega arith) before (λ less. passes) in
      ap (λ t. cond t (Some (position_or_len p xs)) None) (less (position_or_len p xs) (length xs) (omega (arith, first, lt))) ∙ ap (λ n. Some n) first

  pub position_none : ((k : ℕ) → k < length xs → p (get_or xs k other) ≡ false) → position p xs ≡ None
  position_none none =
      let past : position_or_len p xs ≡ length xs = position_or_len_is p xs (length xs) other (omega arith) none (λ lt. absurd (omega arith)) in
      ap (λ t. cond t (Some (position_or_len p xs)) None) (not_under (position_or_len p xs) (length xs) (omega (arith, past)))

  some_is : (n k : ℕ) (t : Bool) → ◌≡◌ {A = Option ℕ} (cond t (Some n) None) (Some k) → (t ≡ true) × (n ≡ k)
  some_is n k true h = (refl, same h)
    where
      same : ◌≡◌ {A = Option ℕ} (Some n) (Some k) → n ≡ k
      same h = cc
  some_is n k false h = absurd (none h)
    where
      none : ◌≡◌ {A = Option ℕ} None (Some k) → ⊥
      none h = cc

  none_is : (n : ℕ) (t : Bool) → ◌≡◌ {A = Option ℕ} (cond t (Some n) None) None → t ≡ false
  none_is n true h = absurd (some h)
    where
      some : ◌≡◌ {A = Option ℕ} (Some n) None → ⊥
      some h = cc
  none_is n false h = refl

  pub found_at : (k : ℕ) → position p xs ≡ Some k → (k < length xs) × (p (get_or xs k other) ≡ true)
  found_at k is =
      let parts = some_is (position_or_len p xs) k (nat_lt (position_or_len p xs) (length xs)) is in
      let inside : position_or_len p xs < length xs = ltb-true (position_or_len p xs) (length xs) parts.0 in
      (omega (arith, inside, parts.1), subst (λ j. p (get_or xs j other) ≡ true) parts.1 (passes_at_first p xs other inside))

  pub found_none : position p xs ≡ None → (k : ℕ) → k < length xs → p (get_or xs k other) ≡ false
  found_none is k lt =
      let past = ltb-false (position_or_len p xs) (length xs) (none_is (position_or_len p xs) (nat_lt (position_or_len p xs) (length xs)) is) in
      fails_before_first p xs k other (omega (arith, past, lt))
