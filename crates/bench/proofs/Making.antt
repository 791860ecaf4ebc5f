-- The places of devices on a bench that is made, begins a run, and is taken apart.
use Rattle.std.proofs.Common.{◌≡◌, ℕ, zero, suc, ◌+◌, ◌<◌, List, [], ◌∷◌, ◌++◌, length, Some, refl, sym, ◌∙◌, ap, subst, arith, append_assoc, append-nil, length-append, reverse}
use Rattle.std.specs.Prelude.{slice_get}
use Rattle.std.proofs.lemmas.List.{reverse-append, length-reverse}
use Rattle.bench.specs.Places.{Pairs}

-- the element at a place within a list
pub get_some : {X : Type 0} (xs : List X) (i : ℕ) → i < length xs → (x : X) × (slice_get xs i ≡ Some x)
get_some [] i lt = absurd (omega arith)
get_some (x ∷ xs) zero lt = (x, refl)
get_some (x ∷ xs) (suc i) lt = get_some xs i (omega arith)

pub pairs_at : {X Y : Type 0} (P : X → Y → Type 0) (xs : List X) (ys : List Y) → Pairs P xs ys → (i : ℕ) (x : X) (y : Y) → slice_get xs i ≡ Some x → slice_get ys i ≡ Some y → P x y
pairs_at P [] [] pairs i x y here there = cc
pairs_at P [] (b ∷ ys) pairs i x y here there = absurd pairs
pairs_at P (a ∷ xs) [] pairs i x y here there = absurd pairs
pairs_at P (a ∷ xs) (b ∷ ys) pairs zero x y here there =
    let left : a ≡ x = cc in
    let right : b ≡ y = cc in
    subst (λ v. P v y) left (subst (λ v. P a v) right pairs.0)
pairs_at P (a ∷ xs) (b ∷ ys) pairs (suc i) x y here there = pairs_at P xs ys pairs.1 i x y here there

pub pairs_as : {X Y : Type 0} (P Q : X → Y → Type 0) → ((x : X) (y : Y) → P x y → Q x y) → (xs : List X) (ys : List Y) → Pairs P xs ys → Pairs Q xs ys
pairs_as P Q each [] [] pairs = tt
pairs_as P Q each [] (b ∷ ys) pairs = absurd pairs
pairs_as P Q each (a ∷ xs) [] pairs = absurd pairs
pairs_as P Q each (a ∷ xs) (b ∷ ys) pairs = (each a b pairs.0, pairs_as P Q each xs ys pairs.1)

pub pairs_length : {X Y : Type 0} (P : X → Y → Type 0) (xs : List X) (ys : List Y) → Pairs P xs ys → length ys ≡ length xs
pairs_length P [] [] pairs = refl
pairs_length P [] (b ∷ ys) pairs = absurd pairs
pairs_length P (a ∷ xs) [] pairs = absurd pairs
pairs_length P (a ∷ xs) (b ∷ ys) pairs = ap (λ n. suc n) (pairs_length P xs ys pairs.1)

-- So many elements were moved from the end of one list to the end of another, each related to what became of it.
pub record Moved {X Y : Type 0} (P : X → Y → Type 0) (k : ℕ) (whole left : List X) (made : List Y) : Type 0 where
  pub rest : List X
  pub is : whole ≡ left ++ rest
  pub pairs : Pairs P rest (reverse made)
  pub count : length made ≡ k

pub moved_start : {X Y : Type 0} (P : X → Y → Type 0) (whole : List X) → Moved P 0 whole whole []
moved_start P whole = record { rest = []; is = sym (append-nil whole); pairs = tt; count = refl }

pub moved_more : {X Y : Type 0} (P : X → Y → Type 0) (k : ℕ) (whole left left' : List X) (made made' : List Y) (x : X) (y : Y) → Moved P k whole left made
    → left ≡ left' ++ x ∷ [] → made' ≡ made ++ y ∷ [] → P x y → Moved P (k + 1) whole left' made'
moved_more P k whole left left' made made' x y moved taken put related = record {
  rest = x ∷ moved.rest;
  is = moved.is ∙ ap (λ l. l ++ moved.rest) taken ∙ append_assoc left' (x ∷ []) moved.rest;
  pairs = subst (Pairs P (x ∷ moved.rest)) (sym (ap reverse put ∙ reverse-append made (y ∷ []))) (related, moved.pairs);
  count = ap length put ∙ length-append made (y ∷ []) ∙ ap (λ n. n + 1) moved.count;
}

rest_long : {X Y : Type 0} (P : X → Y → Type 0) (k : ℕ) (whole left : List X) (made : List Y) (moved : Moved P k whole left made) → length left + k ≡ length whole
rest_long P k whole left made moved =
    let all = ap length moved.is ∙ length-append left moved.rest in
    let same = pairs_length P moved.rest (reverse made) moved.pairs in
    omega (arith, all, same, length-reverse made, moved.count)

-- while fewer were moved, there is one more
pub moved_some : {X Y : Type 0} (P : X → Y → Type 0) (k : ℕ) (whole left : List X) (made : List Y) → Moved P k whole left made → k < length whole → 0 < length left
moved_some P k whole left made moved few = omega (arith, rest_long P k whole left made moved)

pub empty_list : {X : Type 0} (xs : List X) → length xs ≡ 0 → xs ≡ []
empty_list [] is = refl
empty_list (x ∷ xs) is = absurd (omega arith)

-- once all were moved, none is left
pub moved_none : {X Y : Type 0} (P : X → Y → Type 0) (k : ℕ) (whole left : List X) (made : List Y) → Moved P k whole left made → k ≡ length whole → length left ≡ 0
moved_none P k whole left made moved all = omega (arith, rest_long P k whole left made moved)

-- once all were moved, the other list is the first one over again, from its end
pub moved_done : {X Y : Type 0} (P : X → Y → Type 0) (k : ℕ) (whole left : List X) (made made' : List Y) → Moved P k whole left made → k ≡ length whole → made' ≡ reverse made → Pairs P whole made'
moved_done P k whole left made made' moved all is =
    let none = empty_list left (moved_none P k whole left made moved all) in
    let same : whole ≡ moved.rest = moved.is ∙ ap (λ l. l ++ moved.rest) none in
    subst (λ w. Pairs P w made') (sym same) (subst (Pairs P moved.rest) (sym is) moved.pairs)

get_middle : {X : Type 0} (xs ys : List X) (x : X) → slice_get (xs ++ x ∷ ys) (length xs) ≡ Some x
get_middle [] ys x = refl
get_middle (z ∷ xs) ys x = get_middle xs ys x

-- an element that is moved is in the first list
pub moved_from : {X Y : Type 0} (P : X → Y → Type 0) (k : ℕ) (whole left left' : List X) (made : List Y) (x : X) → Moved P k whole left made → left ≡ left' ++ x ∷ []
    → slice_get whole (length left') ≡ Some x
moved_from P k whole left left' made x moved taken =
    ap (λ l. slice_get l (length left')) (moved.is ∙ ap (λ l. l ++ moved.rest) taken ∙ append_assoc left' (x ∷ []) moved.rest) ∙ get_middle left' moved.rest x
