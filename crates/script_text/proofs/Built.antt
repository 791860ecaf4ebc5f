-- A line that is written word by word.
use Rattle.std.proofs.Common.{◌≡◌, ℕ, List, [], ◌∷◌, ◌++◌, refl, sym, ap, ◌∙◌}
use Rattle.std.proofs.lemmas.List.{append-nil, append_assoc}
use Rattle.script_words.specs.Words.{spaced}

-- the line so far: how it starts, and the words after that
pub record Built (start : List ℕ) (ws : List (List ℕ)) (line : List ℕ) : Type 0 where
  pub is : line ≡ start ++ spaced ws

spaced_append : (ws vs : List (List ℕ)) → spaced (ws ++ vs) ≡ spaced ws ++ spaced vs
spaced_append [] vs = refl
spaced_append (w ∷ ws) vs = ap (λ (t : List ℕ). 32 ∷ (w ++ t)) (spaced_append ws vs) ∙ ap (λ (t : List ℕ). 32 ∷ t) (sym (append_assoc w (spaced ws) (spaced vs)))

pub with_words : (start : List ℕ) (ws : List (List ℕ)) (line new : List ℕ) (vs : List (List ℕ)) → Built start ws line → new ≡ line ++ spaced vs → Built start (ws ++ vs) new
with_words start ws line new vs h e = record {
  is = e ∙ ap (λ (t : List ℕ). t ++ spaced vs) h.is ∙ append_assoc start (spaced ws) (spaced vs) ∙ ap (λ (t : List ℕ). start ++ t) (sym (spaced_append ws vs));
}

pub one_spaced : (w : List ℕ) → 32 ∷ w ≡ spaced (w ∷ [])
one_spaced w = ap (λ (t : List ℕ). 32 ∷ t) (sym (append-nil w))

pub two_spaced : (v w : List ℕ) → 32 ∷ (v ++ 32 ∷ w) ≡ spaced (v ∷ w ∷ [])
two_spaced v w = ap (λ (t : List ℕ). 32 ∷ (v ++ t)) (one_spaced w)

pub first_word : (start w line : List ℕ) → line ≡ start ++ 32 ∷ w → Built start (w ∷ []) line
first_word start w line e = record { is = e ∙ ap (λ (t : List ℕ). start ++ t) (one_spaced w) }

pub with_word : (start : List ℕ) (ws : List (List ℕ)) (line new w : List ℕ) → Built start ws line → new ≡ line ++ 32 ∷ w → Built start (ws ++ w ∷ []) new
with_word start ws line new w h e = with_words start ws line new (w ∷ []) h (e ∙ ap (λ (t : List ℕ). line ++ t) (one_spaced w))

pub with_named : (start : List ℕ) (ws : List (List ℕ)) (line new v w : List ℕ) → Built start ws line → new ≡ line ++ 32 ∷ (v ++ 32 ∷ w) → Built start (ws ++ v ∷ w ∷ []) new
with_named start ws line new v w h e = with_words start ws line new (v ∷ w ∷ []) h (e ∙ ap (λ (t : List ℕ). line ++ t) (two_spaced v w))
