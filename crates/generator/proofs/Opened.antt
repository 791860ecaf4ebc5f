-- The places of the opening.
use Rattle.std.proofs.Common.{◌≡◌, ℕ, zero, suc, ◌+◌, ◌-◌, ◌<◌, ◌≤◌, List, [], ◌∷◌, ◌++◌, length, map, Some, slice_get, ap, sym, ◌∙◌, arith}
use Rattle.std.specs.List.{range_with_len}
use Rattle.generator.specs.Opening.{first_debit, first_debits, introductions, first_transactions, opening}

-- the places of a list after another
behind : {X : Type 0} (xs ys : List X) (i k : ℕ) → i ≡ length xs + k → slice_get (xs ++ ys) i ≡ slice_get ys k
behind [] ys i k e = let same : i ≡ k = omega (arith, e) in ap (λ n. slice_get ys n) same
behind (x ∷ xs) ys zero k e = absurd (omega (arith, e))
behind (x ∷ xs) ys (suc i) k e = behind xs ys i k (omega (arith, e))

pub debits_behind : (place : ℕ) → 18 ≤ place → slice_get first_debits (place - 18) ≡ slice_get opening place
debits_behind place h = sym (behind (introductions ++ first_transactions) first_debits place (place - 18) (omega (arith, h)))

-- what each place of a list over a range holds
ranged : {X : Type 0} (f : ℕ → X) (a n k : ℕ) → k < n → slice_get (map f (range_with_len a n)) k ≡ Some (f (a + k))
ranged f a zero k h = absurd (omega (arith, h))
ranged f a (suc n) zero h = let same : a ≡ a + 0 = omega arith in ap (λ i. Some (f i)) same
ranged f a (suc n) (suc k) h =
    let same : a + 1 + k ≡ a + suc k = omega arith in
    ranged f (a + 1) n k (omega (arith, h)) ∙ ap (λ i. Some (f i)) same

-- the pieces are counted from 1
pub debit_at : (k : ℕ) → k < 10 → slice_get first_debits k ≡ Some (first_debit (k + 1))
debit_at k h = let same : 1 + k ≡ k + 1 = omega arith in ranged first_debit 1 10 k h ∙ ap (λ i. Some (first_debit i)) same
