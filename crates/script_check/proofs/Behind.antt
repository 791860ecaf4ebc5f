-- The word after so many others.
use Rattle.std.proofs.Common.{◌≡◌, ℕ, zero, suc, ◌+◌, ◌-◌, ◌≤◌, List, [], ◌∷◌, drop, slice_get, Option, Some, None, MatchOption, Bor, refl, sym, ap, subst, arith}
use Rattle.script_check.specs.Wrong.{IsWordAt, IsBehindAll}

-- what follows the first of the words that are left
pub next_word : (n : ℕ) (ws : List (List ℕ)) (w : List ℕ) (more : List (List ℕ)) → w ∷ more ≡ drop n ws → more ≡ drop (suc n) ws
next_word zero [] w more e = absurd (cc e)
next_word zero (v ∷ ws) w more e = cc
next_word (suc n) [] w more e = absurd (cc e)
next_word (suc n) (v ∷ ws) w more e = next_word n ws w more e

pub word_there : (n : ℕ) (ws : List (List ℕ)) (w : List ℕ) (more : List (List ℕ)) → w ∷ more ≡ drop n ws → slice_get ws n ≡ Some w
word_there zero [] w more e = absurd (cc e)
word_there zero (v ∷ ws) w more e = let same : v ≡ w = cc in ap Some same
word_there (suc n) [] w more e = absurd (cc e)
word_there (suc n) (v ∷ ws) w more e = word_there n ws w more e

-- nothing follows the last word
pub no_word : (n m : ℕ) (ws : List (List ℕ)) → [] ≡ drop n ws → n ≤ m → slice_get ws m ≡ None
no_word n m [] e le = refl
no_word zero m (v ∷ ws) e le = absurd (cc e)
no_word (suc n) zero (v ∷ ws) e le = absurd (omega (arith, le))
no_word (suc n) (suc m) (v ∷ ws) e le = no_word n m ws e (omega (arith, le))

-- after a first word, at the place of the word after so many
pub found_behind : (k : List ℕ) (ws : List (List ℕ)) (count place : ℕ) (found : Option (List ℕ)) → place ≡ count + 2 → slice_get ws count ≡ found → slice_get (k ∷ ws) (place - 1) ≡ found
found_behind k ws count place found is e =
    let at : suc count ≡ place - 1 = omega (arith, is) in
    subst (λ (n : ℕ). slice_get (k ∷ ws) n ≡ found) at e

-- so it is of what is found
pub found_for : (k : List ℕ) (ws : List (List ℕ)) (count place : ℕ) (found shown : Option (Bor (List ℕ))) → shown ≡ found → place ≡ count + 2
    → MatchOption found (slice_get ws count ≡ None) (λ w. slice_get ws count ≡ Some w.now)
    → MatchOption shown (IsBehindAll place (k ∷ ws)) (λ w. IsWordAt place (k ∷ ws) w.now)
found_for k ws count place found shown same is h =
    subst (λ (o : Option (Bor (List ℕ))). MatchOption o (IsBehindAll place (k ∷ ws)) (λ w. IsWordAt place (k ∷ ws) w.now)) (sym same) (each found h)
  where
    each : (o : Option (Bor (List ℕ))) → MatchOption o (slice_get ws count ≡ None) (λ w. slice_get ws count ≡ Some w.now)
        → MatchOption o (IsBehindAll place (k ∷ ws)) (λ w. IsWordAt place (k ∷ ws) w.now)
    each None e = found_behind k ws count place None is e
    each (Some w) e = found_behind k ws count place (Some w.now) is e
