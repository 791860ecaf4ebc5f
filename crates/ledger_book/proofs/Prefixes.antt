-- What always holds of a list holds of each list that it grew from: of each front of a slice.
use Rattle.std.proofs.Common.{◌≡◌, ℕ, ◌+◌, ◌<◌, List, [], ◌∷◌, ◌++◌, length, get_or, take, drop, reverse, ap, sym, ◌∙◌, subst, take-append-drop}
use Rattle.std.proofs.lemmas.List.{reverse-append, take_more}
use Rattle.ledger_terms.specs.Lawful.{Always}

pub always_now : {A : Type 0} (P : List A → Type 0) (xs : List A) → Always P xs → P xs
always_now P [] h = h
always_now P (x ∷ xs) h = h.0

pub always_before : {A : Type 0} (P : List A → Type 0) (ys xs : List A) → Always P (ys ++ xs) → Always P xs
always_before P [] xs h = h
always_before P (y ∷ ys) xs h = always_before P ys xs h.1

pub always_front : {A : Type 0} (P : List A → Type 0) (xs : List A) (n : ℕ) → Always P (reverse xs) → Always P (reverse (take n xs))
always_front P xs n h =
    let whole = ap reverse (sym (take-append-drop n xs)) ∙ reverse-append (take n xs) (drop n xs) in
    always_before P (reverse (drop n xs)) (reverse (take n xs)) (subst (Always P) whole h)

pub front_more : {A : Type 0} (xs : List A) (i : ℕ) (x : A) → i < length xs → x ≡ get_or xs i x → reverse (take (i + 1) xs) ≡ x ∷ reverse (take i xs)
front_more xs i x h e =
    ap reverse (take_more xs i x h) ∙ (reverse-append (take i xs) (get_or xs i x ∷ []) ∙ ap (λ z. z ∷ reverse (take i xs)) (sym e))

-- at the element at i, with those before it
pub always_at : {A : Type 0} (P : List A → Type 0) (xs : List A) (i : ℕ) (x : A) → i < length xs → x ≡ get_or xs i x → Always P (reverse xs) → P (x ∷ reverse (take i xs))
always_at P xs i x h e always = subst P (front_more xs i x h e) (always_now P (reverse (take (i + 1) xs)) (always_front P xs (i + 1) always))

-- one element more
pub always_more : {A : Type 0} (P : List A → Type 0) (xs : List A) (i : ℕ) (d : A) → i < length xs → P (reverse (take (i + 1) xs)) → Always P (reverse (take i xs)) → Always P (reverse (take (i + 1) xs))
always_more P xs i d h now before =
    let grown : reverse (take (i + 1) xs) ≡ get_or xs i d ∷ reverse (take i xs) = ap reverse (take_more xs i d h) ∙ reverse-append (take i xs) (get_or xs i d ∷ []) in
    subst (Always P) (sym grown) (subst P grown now, before)

pub always_weaker : {A : Type 0} (P Q : List A → Type 0) → ((xs : List A) → P xs → Q xs) → (xs : List A) → Always P xs → Always Q xs
always_weaker P Q f [] h = f [] h
always_weaker P Q f (x ∷ xs) h = (f (x ∷ xs) h.0, always_weaker P Q f xs h.1)
