-- Words at the first places of a form, and words at all of them.
use Rattle.std.proofs.Common.{◌≡◌, ℕ, zero, suc, ◌≤◌, List, [], ◌∷◌, ◌++◌, take, refl, sym, subst, arith}
use Rattle.script_check.specs.Slots.{Takes}
use Rattle.script_check.specs.Forms.{AreInPlace}
use Rattle.script_check.specs.declared.slots.Slot.{Slot}
use Rattle.script_check.proofs.Samples.{sample}

-- the words are those of the form, one for each place
abbrev pub Fits : List Slot → List (List ℕ) → Type 0
Fits [] ws = ws ≡ []
Fits (s ∷ form) ws = (w : List ℕ) × (rest : List (List ℕ)) × (ws ≡ w ∷ rest) × Takes s w × Fits form rest

filled : (form : List Slot) → (ws : List (List ℕ)) × Fits form ws
filled [] = ([], refl)
filled (s ∷ form) = let word = sample s in let more = filled form in (word.0 ∷ more.0, (word.0, more.0, refl, word.1, more.1))

-- words at the first places go on to fit
pub completed : (form : List Slot) (prefix : List (List ℕ)) → AreInPlace form prefix → (rest : List (List ℕ)) × Fits form (prefix ++ rest)
completed form [] h = filled form
completed [] (w ∷ ws) h = absurd h
completed (s ∷ form) (w ∷ ws) h = let more = completed form ws h.1 in (more.0, (w, ws ++ more.0, refl, h.0, more.1))

same_head : (v w : List ℕ) (vs ws : List (List ℕ)) → v ∷ vs ≡ w ∷ ws → v ≡ w
same_head v w vs ws e = cc

same_tail : (v w : List ℕ) (vs ws : List (List ℕ)) → v ∷ vs ≡ w ∷ ws → vs ≡ ws
same_tail v w vs ws e = cc

-- the first of words that fit a form fit its first places
pub prefix_of : (form : List Slot) (prefix rest : List (List ℕ)) → Fits form (prefix ++ rest) → AreInPlace form prefix
prefix_of form [] rest h = tt
prefix_of [] (w ∷ ws) rest h = absurd (cc h)
prefix_of (s ∷ form) (w ∷ ws) rest h = (
  subst (λ (v : List ℕ). Takes s v) (sym (same_head w h.0 (ws ++ rest) h.1 h.2)) h.3,
  prefix_of form ws rest (subst (λ (vs : List (List ℕ)). Fits form vs) (sym (same_tail w h.0 (ws ++ rest) h.1 h.2)) h.4),
)

-- fewer words fit them too
pub fewer : (form : List Slot) (n m : ℕ) (ws : List (List ℕ)) → n ≤ m → AreInPlace form (take m ws) → AreInPlace form (take n ws)
fewer form zero m ws le h = tt
fewer form (suc n) zero ws le h = absurd (omega (arith, le))
fewer form (suc n) (suc m) [] le h = tt
fewer [] (suc n) (suc m) (w ∷ ws) le h = absurd h
fewer (s ∷ form) (suc n) (suc m) (w ∷ ws) le h = (h.0, fewer form n m ws (omega (arith, le)) h.1)
