-- Texts in a row, and a prefix of them.
use Rattle.std.proofs.Common.{◌≡◌, ℕ, ◌+◌, ◌<◌, List, [], ◌∷◌, ◌++◌, length, take, drop, flat_map, Some, refl, sym, ap, ◌∙◌, arith, append_assoc, append-nil, take-append-drop, suc, zero, add-one}
use Rattle.std.specs.Prelude.{slice_get}
use Rattle.std.proofs.lemmas.Grind.{flat_map-append}
use Rattle.std.proofs.lemmas.List.{length-drop, length-append}
use Rattle.line_runs.specs.Lines.{IsCutOff, ended}

-- a prefix of the bytes that isn't all of them
pub cut_off : (bytes text : List ℕ) (n : ℕ) → n < length bytes → bytes ≡ text → IsCutOff (take n bytes) text
cut_off bytes text n short is =
    (drop n bytes, sym is ∙ sym (take-append-drop n bytes), omega (arith, length-drop n bytes))

-- the element at k, and what is before and after it
split_at : {X : Type 0} (xs : List X) (k : ℕ) (x : X) → slice_get xs k ≡ Some x → (rest : List X) × (xs ≡ take k xs ++ (x ∷ rest)) × (take (suc k) xs ≡ take k xs ++ x ∷ [])
split_at [] k x at = cc
split_at (y ∷ xs) zero x at = let same : y ≡ x = cc in (xs, ap (λ z. z ∷ xs) same, ap (λ z. z ∷ []) same)
split_at (y ∷ xs) (suc k) x at = let w = split_at xs k x at in (w.0, ap (λ l. y ∷ l) w.1, ap (λ l. y ∷ l) w.2)

-- one text more
pub more_texts : (texts : List (List ℕ)) (k : ℕ) (t : List ℕ) → slice_get texts k ≡ Some t → flat_map ended (take (k + 1) texts) ≡ flat_map ended (take k texts) ++ ended t
more_texts texts k t at = let w = split_at texts k t at in
    ap (λ n. flat_map ended (take n texts)) (add-one k) ∙ ap (λ l. flat_map ended l) w.2 ∙ flat_map-append ended (take k texts) (t ∷ []) ∙ ap (λ l. flat_map ended (take k texts) ++ l) (append-nil (ended t))

-- the texts so far, and a prefix of the next one
pub texts_cut : (texts : List (List ℕ)) (k n : ℕ) (t : List ℕ) → slice_get texts k ≡ Some t → n < length (ended t) → IsCutOff (flat_map ended (take k texts) ++ take n (ended t)) (flat_map ended texts)
texts_cut texts k n t at short =
    let w = split_at texts k t at in
    let cut = cut_off (ended t) (ended t) n short refl in (
      cut.0 ++ flat_map ended w.0,
      ap (λ l. flat_map ended l) w.1 ∙ flat_map-append ended (take k texts) (t ∷ w.0) ∙ ap (λ l. flat_map ended (take k texts) ++ (l ++ flat_map ended w.0)) cut.1
          ∙ ap (λ l. flat_map ended (take k texts) ++ l) (append_assoc (take n (ended t)) cut.0 (flat_map ended w.0))
          ∙ sym (append_assoc (flat_map ended (take k texts)) (take n (ended t)) (cut.0 ++ flat_map ended w.0)),
      omega (arith, cut.2, length-append cut.0 (flat_map ended w.0)),
    )
