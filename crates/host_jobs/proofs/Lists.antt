-- The greatest of a list, and the first that is found in one.
use Rattle.std.proofs.Common.{◌≡◌, ℕ, zero, suc, ◌<◌, ◌≤◌, List, [], ◌∷◌, ◌++◌, length, get_or, set, Option, Some, None, refl, sym, ap, ◌∙◌, subst, arith}
use Rattle.std.specs.Prelude.{max, IsSome}
use Rattle.bench_base.specs.Rows.{first_of}
use Rattle.host_jobs.specs.Rows.{greatest, first_found}

module _ {A : Type 0} (f : A → ℕ) where
  -- no item is above it
  pub greatest_le : (l : List A) (k : ℕ) (d : A) → f d ≡ 0 → f (get_or l k d) ≤ greatest f l
  greatest_le [] k d none = omega (arith, none)
  greatest_le (x ∷ l) zero d none = omega arith
  greatest_le (x ∷ l) (suc k) d none = omega (arith, greatest_le l k d none)

  pub greatest_least : (l : List A) (d : A) (m : ℕ) → ((k : ℕ) → k < length l → f (get_or l k d) ≤ m) → greatest f l ≤ m
  greatest_least [] d m each = omega arith
  greatest_least (x ∷ l) d m each = omega (arith, each 0 (omega arith), greatest_least l d m (λ k lt. each (suc k) (omega (arith, lt))))

  -- an item that is replaced by one that is no less
  pub greatest_set : (l : List A) (k : ℕ) (x d : A) → k < length l → f (get_or l k d) ≤ f x → greatest f (set l k x) ≡ max (greatest f l) (f x)
  greatest_set [] k x d lt le = absurd (omega arith)
  greatest_set (y ∷ l) zero x d lt le = omega (arith, le)
  greatest_set (y ∷ l) (suc k) x d lt le = omega (arith, greatest_set l k x d (omega arith) le)

  pub greatest_snoc : (l : List A) (x : A) → greatest f (l ++ x ∷ []) ≡ max (greatest f l) (f x)
  greatest_snoc [] x = omega arith
  greatest_snoc (y ∷ l) x = omega (arith, greatest_snoc l x)

module _ {A B : Type 0} (f : A → Option B) where
  first_none : (o p : Option B) → o ≡ None → p ≡ None → first_of o p ≡ None
  first_none None p is is' = is'
  first_none (Some b) p is is' = is

  pub found_none : (l : List A) (d : A) → ((k : ℕ) → k < length l → f (get_or l k d) ≡ None) → first_found f l ≡ None
  found_none [] d each = refl
  found_none (x ∷ l) d each = first_none (f x) (first_found f l) (each 0 (omega arith)) (found_none l d (λ k lt. each (suc k) (omega (arith, lt))))

  -- where something is found
  pub record Found (l : List A) (d : A) (b : B) : Type 0 where
    pub place : ℕ
    pub inside : place < length l
    pub is : f (get_or l place d) ≡ Some b

  pub found_at : (l : List A) (d : A) (b : B) → first_found f l ≡ Some b → Found l d b
  found_at [] d b h = absurd (cc)
  found_at (x ∷ l) d b h = by (found_at l d b) (f x) refl h
    where
      by : (first_found f l ≡ Some b → Found l d b) → (o : Option B) → f x ≡ o → first_of o (first_found f l) ≡ Some b → Found (x ∷ l) d b
      by rest None at h = let it = rest h in record { place = suc it.place; inside = omega (arith, it.inside); is = it.is }
      by rest (Some c) at h = record { place = 0; inside = omega arith; is = at ∙ h }

  -- something is found in one item alone
  pub found_one : (l : List A) (d : A) (k : ℕ) (b : B) → k < length l → f (get_or l k d) ≡ Some b
      → ((i : ℕ) → i < length l → IsSome (f (get_or l i d)) → i ≡ k) → first_found f l ≡ Some b
  found_one [] d k b lt is one = absurd (omega arith)
  found_one (x ∷ l) d zero b lt is one = ap (λ (o : Option B). first_of o (first_found f l)) is
  found_one (x ∷ l) d (suc k) b lt is one =
      by (found_one l d k b (omega (arith, lt)) is (λ i inside some. let same = one (suc i) (omega (arith, inside)) some in omega (arith, same))) (f x) refl
    where
      by : first_found f l ≡ Some b → (o : Option B) → f x ≡ o → first_of o (first_found f l) ≡ Some b
      by rest None at = rest
      by rest (Some c) at = let same = one 0 (omega arith) (subst (λ (o : Option B). IsSome o) (sym at) refl) in absurd (omega (arith, same))

  none_of : (o p : Option B) → first_of o p ≡ None → (o ≡ None) × (p ≡ None)
  none_of None p h = (refl, h)
  none_of (Some b) p h = absurd (cc)

  -- where nothing is found, there is nothing
  pub found_nothing : (l : List A) (d : A) → f d ≡ None → first_found f l ≡ None → (k : ℕ) → f (get_or l k d) ≡ None
  found_nothing [] d none h k = none
  found_nothing (x ∷ l) d none h zero = (none_of (f x) (first_found f l) h).0
  found_nothing (x ∷ l) d none h (suc k) = found_nothing l d none (none_of (f x) (first_found f l) h).1 k

  pub found_snoc : (l : List A) (x : A) → first_found f (l ++ x ∷ []) ≡ first_of (first_found f l) (f x)
  found_snoc [] x = last (f x)
    where
      last : (o : Option B) → first_of o None ≡ o
      last None = refl
      last (Some b) = refl
  found_snoc (y ∷ l) x = ap (λ (o : Option B). first_of (f y) o) (found_snoc l x) ∙ twice (f y)
    where
      twice : (o : Option B) → first_of o (first_of (first_found f l) (f x)) ≡ first_of (first_of o (first_found f l)) (f x)
      twice None = refl
      twice (Some b) = refl

  -- an item is replaced, and the same is found in the new one
  pub found_set : (l : List A) (k : ℕ) (x d : A) → f x ≡ f (get_or l k d) → first_found f (set l k x) ≡ first_found f l
  found_set [] k x d same = refl
  found_set (y ∷ l) zero x d same = ap (λ (o : Option B). first_of o (first_found f l)) same
  found_set (y ∷ l) (suc k) x d same = ap (λ (o : Option B). first_of (f y) o) (found_set l k x d same)
