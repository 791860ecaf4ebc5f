-- Lists after one element was set.
use Rattle.std.proofs.Common.{◌≡◌, ◌≢◌, ℕ, zero, suc, ◌<◌, List, [], ◌∷◌, length, Option, Some, refl, ◌∙◌, ap, arith}
use Rattle.std.specs.Prelude.{slice_get, slice_set}
use Rattle.std.proofs.lemmas.Option.{slice_get-get_or}
use Rattle.std.proofs.lemmas.List.{get_or-set_same, length-set}

pub get_set_same : {X : Type 0} (xs : List X) (i : ℕ) (v : X) → i < length xs → slice_get (slice_set xs i v) i ≡ Some v
get_set_same xs i v lt = slice_get-get_or (slice_set xs i v) i v (omega (arith, length-set xs i v)) ∙ ap (λ x. Some x) (get_or-set_same xs i v v lt)

pub get_set_other : {X : Type 0} (xs : List X) (i : ℕ) (v : X) (j : ℕ) → j ≢ i → slice_get (slice_set xs i v) j ≡ slice_get xs j
get_set_other [] i v j differs = refl
get_set_other (x ∷ xs) zero v zero differs = absurd (differs refl)
get_set_other (x ∷ xs) zero v (suc j) differs = refl
get_set_other (x ∷ xs) (suc i) v zero differs = refl
get_set_other (x ∷ xs) (suc i) v (suc j) differs = get_set_other xs i v j (λ is. differs (ap (λ (k : ℕ). suc k) is))

-- setting a place to the element that is there already changes nothing
pub set_there : {X : Type 0} (xs : List X) (i : ℕ) (v : X) → slice_get xs i ≡ Some v → slice_set xs i v ≡ xs
set_there [] i v is = refl
set_there {X} (x ∷ xs) zero v is = let same : v ≡ x = cc in ap (λ (y : X). y ∷ xs) same
set_there {X} (x ∷ xs) (suc i) v is = ap (λ (l : List X). x ∷ l) (set_there xs i v is)

pub same_some : {X : Type 0} (a b : X) (o p : Option X) → o ≡ p → o ≡ Some a → p ≡ Some b → b ≡ a
same_some a b o p is here there = cc
