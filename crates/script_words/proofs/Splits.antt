-- A line and its words: each determines the other.
use Rattle.std.proofs.Common.{◌≡◌, ◌≢◌, ℕ, ◌+◌, ◌-◌, ◌<◌, length-drop, List, [], ◌∷◌, ◌++◌, length, get_or, take, drop, refl, sym, ap, ◌∙◌, arith, subst, eqb, add-one, inl, inr}
use Rattle.std.specs.List.{AllByRecursion}
use Rattle.std.proofs.lemmas.Bool.{ne_eqb, cond-false}
use Rattle.std.proofs.lemmas.Bool.Decides.{eqb_tells}
use Rattle.std.proofs.lemmas.List.{take_more, take_all, append-nil}
use Rattle.std.proofs.Math.Seq.{split_at}
use Rattle.script_words.specs.Words.{words_in, joined, longer}

-- no byte is a space
abbrev pub Solid : List ℕ → Type 0
Solid [] = Unit {0}
Solid (b ∷ bytes) = (b ≢ 32) × Solid bytes

-- there is a first word
abbrev pub HasFirst : List (List ℕ) → Type 0
HasFirst [] = ⊥
HasFirst (w ∷ ws) = Unit {0}

abbrev pub AreSolid : List (List ℕ) → Type 0
AreSolid [] = Unit {0}
AreSolid (w ∷ ws) = Solid w × AreSolid ws

-- each byte is above the space, as a letter, a digit or a dash is: so it is neither the space nor the line end
abbrev pub Printed : List ℕ → Type 0
Printed w = AllByRecursion (λ b. 32 < b) w

abbrev pub ArePrinted : List (List ℕ) → Type 0
ArePrinted ws = AllByRecursion Printed ws

Solid-printed : (w : List ℕ) → Printed w → Solid w
Solid-printed [] h = tt
Solid-printed (b ∷ w) h = (above b h.0, Solid-printed w h.1)
  where
    above : (c : ℕ) → 32 < c → c ≢ 32
    above c h e = omega (arith, h, e)

pub AreSolid-printed : (ws : List (List ℕ)) → ArePrinted ws → AreSolid ws
AreSolid-printed [] h = tt
AreSolid-printed (w ∷ ws) h = (Solid-printed w h.0, AreSolid-printed ws h.1)

pub Solid-append : (a b : List ℕ) → Solid a → Solid b → Solid (a ++ b)
Solid-append [] b h k = k
Solid-append (x ∷ a) b h k = (h.0, Solid-append a b h.1 k)

Solid-push : (line : List ℕ) (b : ℕ) → Solid line → b ≢ 32 → Solid (line ++ b ∷ [])
Solid-push line b h k = Solid-append line (b ∷ []) h (k, tt)

pub Solid-more : (bytes : List ℕ) (i : ℕ) → i < length bytes → Solid (take i bytes) → get_or bytes i 0 ≢ 32 → Solid (take (i + 1) bytes)
Solid-more bytes i inside h other = rw (take_more bytes i 0 inside) (Solid-push (take i bytes) (get_or bytes i 0) h other)

pub at_space : (line : List ℕ) → words_in (32 ∷ line) ≡ [] ∷ words_in line
unfolding words_in
at_space line = refl

pub at_byte : (c : ℕ) (line : List ℕ) → c ≢ 32 → words_in (c ∷ line) ≡ longer c (words_in line)
unfolding words_in
at_byte c line other = cond-false (eqb c 32) ([] ∷ words_in line) (longer c (words_in line)) (ne_eqb c 32 other)

-- a line without a space is its one word
pub words_in_solid : (line : List ℕ) → Solid line → words_in line ≡ line ∷ []
unfolding words_in
words_in_solid [] h = refl
words_in_solid (c ∷ line) h = at_byte c line h.0 ∙ ap (longer c) (words_in_solid line h.1)

-- the first word of a line
pub words_in_first : (word line : List ℕ) → Solid word → words_in (word ++ 32 ∷ line) ≡ word ∷ words_in line
words_in_first [] line h = at_space line
words_in_first (c ∷ word) line h = at_byte c (word ++ 32 ∷ line) h.0 ∙ ap (longer c) (words_in_first word line h.1)

pub words_in_split : (bytes : List ℕ) (i : ℕ) → i < length bytes → get_or bytes i 0 ≡ 32 → Solid (take i bytes)
    → words_in bytes ≡ take i bytes ∷ words_in (take (length bytes - (i + 1)) (drop (i + 1) bytes))
words_in_split bytes i inside is solid =
    let cut = split_at bytes i 0 inside in
    let cell = ap (λ (c : ℕ). take i bytes ++ c ∷ drop (i + 1) bytes) is in
    let whole : bytes ≡ take i bytes ++ get_or bytes i 0 ∷ drop (i + 1) bytes = rw add-one cut in
    let rest = take_all (length bytes - (i + 1)) (drop (i + 1) bytes) (omega (arith, length-drop (i + 1) bytes)) in
    ap words_in (whole ∙ cell) ∙ words_in_first (take i bytes) (drop (i + 1) bytes) solid ∙ ap (λ t. take i bytes ∷ words_in t) (sym rest)

pub words_in_some : (line : List ℕ) → HasFirst (words_in line)
unfolding words_in
words_in_some [] = tt
words_in_some (c ∷ line) =
    elim (eqb_tells c 32) [
      | inl x ↦ subst HasFirst (sym (ap (λ (d : ℕ). words_in (d ∷ line)) x.1 ∙ at_space line)) tt
      | inr x ↦ subst HasFirst (sym (at_byte c line x.1)) (longer_some c (words_in line) (words_in_some line))
    ]
  where
    longer_some : (c : ℕ) (ws : List (List ℕ)) → HasFirst ws → HasFirst (longer c ws)
    longer_some c [] h = absurd h
    longer_some c (w ∷ ws) h = tt

joined_space : (ws : List (List ℕ)) → HasFirst ws → joined ([] ∷ ws) ≡ 32 ∷ joined ws
joined_space [] h = absurd h
joined_space (w ∷ ws) h = refl

joined_longer : (c : ℕ) (ws : List (List ℕ)) → HasFirst ws → joined (longer c ws) ≡ c ∷ joined ws
joined_longer c [] h = absurd h
joined_longer c (w ∷ []) h = refl
joined_longer c (w ∷ v ∷ ws) h = refl

-- the words of a line, joined, are the line
pub joined_words_in : (line : List ℕ) → joined (words_in line) ≡ line
unfolding words_in
joined_words_in [] = refl
joined_words_in (c ∷ line) =
    elim (eqb_tells c 32) [
      | inl x ↦
          ap (λ (d : ℕ). joined (words_in (d ∷ line))) x.1 ∙ ap joined (at_space line) ∙ joined_space (words_in line) (words_in_some line)
          ∙ ap (λ (l : List ℕ). 32 ∷ l) (joined_words_in line) ∙ ap (λ (d : ℕ). d ∷ line) (sym x.1)
      | inr x ↦
          ap joined (at_byte c line x.1) ∙ joined_longer c (words_in line) (words_in_some line) ∙ ap (λ (l : List ℕ). c ∷ l) (joined_words_in line)
    ]

-- a line whose first word begins with c begins with c
pub begins_with : (c : ℕ) (word : List ℕ) (rest : List (List ℕ)) (line : List ℕ) → words_in line ≡ (c ∷ word) ∷ rest → (tail : List ℕ) × (line ≡ c ∷ tail)
begins_with c word rest line is = (_, sym (joined_words_in line) ∙ ap (λ (ws : List (List ℕ)). joined ws) is)

-- words without spaces, joined, have these words
pub words_in_joined : (w : List ℕ) (ws : List (List ℕ)) → AreSolid (w ∷ ws) → words_in (joined (w ∷ ws)) ≡ w ∷ ws
words_in_joined w [] h = ap words_in (append-nil w) ∙ words_in_solid w h.0
words_in_joined w (v ∷ ws) h = words_in_first w (joined (v ∷ ws)) h.0 ∙ ap (λ (t : List (List ℕ)). w ∷ t) (words_in_joined v ws h.1)

-- a line of more words than one
pub not_one : (bytes word rest : List ℕ) → words_in bytes ≡ word ∷ words_in rest → (text : List ℕ) → words_in bytes ≢ text ∷ []
not_one bytes word rest h text e =
    let none : words_in rest ≡ [] = ap (λ (ws : List (List ℕ)). drop 1 ws) (sym h ∙ e) in subst HasFirst none (words_in_some rest)
