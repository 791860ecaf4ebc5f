-- Prints beside imprints, one after another.
use Rattle.std.proofs.Common.{◌≡◌, ◌==◌, Bool, true, false, inl, inr, ℕ, zero, suc, ◌+◌, ◌<◌, ◌≤◌, List, [], ◌∷◌, ◌++◌, length, drop, refl, sym, ◌∙◌, ap, subst, arith}
use Rattle.std.proofs.lemmas.Bool.{eqb-true}
use Rattle.std.proofs.lemmas.List.{length-append, length-drop, drop_all, drop_at, drop-drop}
use Rattle.trace_runs.specs.declared.{imprint.Imprint.Imprint, places.Places.Places}
use Rattle.trace_runs.specs.Prints.{Took, ArePrinted, FitsUpTo, DiffersAt}
use Rattle.trace_runs.specs.Places.{Has, AreInside, AreAfter}
use Rattle.trace_runs.proofs.Reaching.{has_inside}

-- == one imprint more ==

-- the imprint after those that fit, and what the prints have of it
pub fits_more : (imprints : List Imprint) (bytes : List ℕ) (place : ℕ) (mid rest piece : List ℕ) (i : Imprint) (behind : List Imprint)
    → FitsUpTo imprints bytes place mid → drop place imprints ≡ i ∷ behind → mid ≡ piece ++ rest → Took i.given.taken i.given.mark piece → FitsUpTo imprints bytes (suc place) rest
fits_more [] bytes zero mid rest piece i behind fits first is took = absurd (cc first)
fits_more (j ∷ imprints) bytes zero mid rest piece i behind fits first is took =
    let same : i ≡ j = cc first in
    (piece, rest, fits ∙ is, subst (λ (k : Imprint). Took k.given.taken k.given.mark piece) same took, refl)
fits_more [] bytes (suc place) mid rest piece i behind fits first is took = absurd fits
fits_more (j ∷ imprints) bytes (suc place) mid rest piece i behind fits first is took =
    (fits.0, fits.1, fits.2, fits.3, fits_more imprints fits.1 place mid rest piece i behind fits.4 first is took)

pub fits_less : (imprints : List Imprint) (bytes : List ℕ) (place : ℕ) (rest : List ℕ) (i : Imprint) (behind : List Imprint) → drop place imprints ≡ i ∷ behind → FitsUpTo imprints bytes (suc place) rest
    → (mid piece : List ℕ) × FitsUpTo imprints bytes place mid × (mid ≡ piece ++ rest) × Took i.given.taken i.given.mark piece
fits_less [] bytes zero rest i behind first fits = absurd fits
fits_less (j ∷ imprints) bytes zero rest i behind first fits =
    let same : j ≡ i = cc first in
    (bytes, fits.0, refl, fits.2 ∙ ap (λ (l : List ℕ). fits.0 ++ l) fits.4, subst (λ (k : Imprint). Took k.given.taken k.given.mark fits.0) same fits.3)
fits_less [] bytes (suc place) rest i behind first fits = absurd fits
fits_less (j ∷ imprints) bytes (suc place) rest i behind first fits =
    let w = fits_less imprints fits.1 place rest i behind first fits.4 in
    (w.0, w.1, (fits.0, fits.1, fits.2, fits.3, w.2), w.3, w.4)

-- == all of them ==

pub all_printed : (imprints : List Imprint) (bytes : List ℕ) → FitsUpTo imprints bytes (length imprints) [] → ArePrinted imprints bytes
all_printed [] bytes fits = fits
all_printed (i ∷ imprints) bytes fits = (fits.0, fits.1, fits.2, fits.3, all_printed imprints fits.1 fits.4)

pub printed_fits : (imprints : List Imprint) (bytes : List ℕ) → ArePrinted imprints bytes → FitsUpTo imprints bytes (length imprints) []
printed_fits [] bytes printed = printed
printed_fits (i ∷ imprints) bytes printed = (printed.0, printed.1, printed.2, printed.3, printed_fits imprints printed.1 printed.4)

-- some of them
pub fits_some : (imprints : List Imprint) (bytes : List ℕ) (place : ℕ) → place ≤ length imprints → ArePrinted imprints bytes → (rest : List ℕ) × FitsUpTo imprints bytes place rest
fits_some imprints bytes zero few printed = (bytes, refl)
fits_some [] bytes (suc place) few printed = absurd (omega (arith, few))
fits_some (i ∷ imprints) bytes (suc place) few printed =
    let w = fits_some imprints printed.1 place (omega (arith, few)) printed.4 in
    (w.0, (printed.0, printed.1, printed.2, printed.3, w.1))

-- no more than there are
pub fits_few : (imprints : List Imprint) (bytes : List ℕ) (place : ℕ) (rest : List ℕ) → length imprints < place → FitsUpTo imprints bytes place rest → ⊥
fits_few imprints bytes zero rest more fits = omega (arith, more)
fits_few [] bytes (suc place) rest more fits = fits
fits_few (i ∷ imprints) bytes (suc place) rest more fits = fits_few imprints fits.1 place rest (omega (arith, more)) fits.4

-- == the places that were reached ==

module _ (imprints : List Imprint) (prints : List ℕ) where
  -- so many imprints can fit with the bytes after these places left, and with no others
  pub record Reached (all : List Places) (place : ℕ) : Type 0 where
    pub inside : AreInside (length prints) all
    pub some : 0 < length all
    pub sound : (t : ℕ) → Has all t → FitsUpTo imprints prints place (drop t prints)
    pub complete : (rest : List ℕ) → FitsUpTo imprints prints place rest → (t : ℕ) × Has all t × (rest ≡ drop t prints)

  pub begun : (p : Places) → p.first ≡ 0 → p.last ≡ 0 → Reached (p ∷ []) 0
  begun p first last = record {
    inside = (omega (arith, first, last), omega (arith, last), tt);
    some = omega arith;
    sound = λ t has. elim has [
      | inl here ↦
          let upto = here.1 in
          let at : 0 ≡ t = omega (arith, upto, last) in
          subst (λ (i : ℕ). prints ≡ drop i prints) at refl
      | inr none ↦ absurd none
    ];
    complete = λ rest fits. (0, inl (omega (arith, first), omega arith), sym fits);
  }

  -- what is left is the bytes after a place
  left_from : (s : ℕ) (piece rest : List ℕ) → drop s prints ≡ piece ++ rest → s ≤ length prints → (t : ℕ) × (t ≤ length prints) × (rest ≡ drop t prints)
  left_from s piece rest is inside =
      let long : length (drop s prints) ≡ length piece + length rest = ap (λ (l : List ℕ). length l) is ∙ length-append piece rest in
      let left = length-drop s prints in
      (s + length piece, omega (arith, long, left, inside), sym (drop_at piece rest (length piece) refl) ∙ ap (λ (l : List ℕ). drop (length piece) l) (sym is) ∙ drop-drop (length piece) s prints)

  module _ (all found : List Places) (place : ℕ) (i : Imprint) (behind : List Imprint) (r : Reached all place) (first : drop place imprints ≡ i ∷ behind)
      (after : AreAfter i.given.taken i.given.mark prints all found) where
    one_more : (rest : List ℕ) → FitsUpTo imprints prints (suc place) rest → (t : ℕ) × Has found t × (rest ≡ drop t prints)
    one_more rest fits =
        let w = fits_less imprints prints place rest i behind first fits in
        let v = r.complete w.0 w.2 in
        let is : drop v.0 prints ≡ w.1 ++ rest = sym v.2 ∙ w.3 in
        let u = left_from v.0 w.1 rest is (has_inside (length prints) all v.0 r.inside v.1) in
        (u.0, after.complete v.0 u.0 v.1 (record { piece = w.1; took = w.4; between = record { inside = u.1; is = is ∙ ap (λ (l : List ℕ). w.1 ++ l) u.2 } }), u.2)

    pub goes_on : 0 < length found → Reached found (place + 1)
    goes_on some = subst (λ (n : ℕ). Reached found n) (let next : suc place ≡ place + 1 = omega arith in next) (record {
      inside = after.inside;
      some = some;
      sound = λ t has.
          let w = after.sound t has in
          fits_more imprints prints place (drop w.0 prints) (drop t prints) w.2.piece i behind (r.sound w.0 w.1) first w.2.between.is w.2.took;
      complete = one_more;
    })

    pub stops : length found ≡ 0 → place < length imprints → (t : ℕ) → Has all t → t ≤ length prints → DiffersAt imprints prints place t
    stops none more t has inside = record {
      inside = inside;
      fits = r.sound t has;
      no_further = no_more;
      unprinted = λ printed. let w = fits_some imprints prints (place + 1) (omega (arith, more)) printed in no_more w.0 w.1;
    }
      where
        none_found : (l : List Places) → length l ≡ 0 → (s : ℕ) → Has l s → ⊥
        none_found [] empty s h = h
        none_found (p ∷ l) empty s h = omega (arith, empty)

        no_more : (rest : List ℕ) → FitsUpTo imprints prints (place + 1) rest → ⊥
        no_more rest fits =
            let w = one_more rest (subst (λ (n : ℕ). FitsUpTo imprints prints n rest) (let next : place + 1 ≡ suc place = omega arith in next) fits) in
            none_found found none w.0 w.1

  -- all imprints can fit
  module _ (all : List Places) (place : ℕ) (r : Reached all place) (done : place ≡ length imprints) where
    pub fit : Has all (length prints) → ArePrinted imprints prints
    fit has =
        all_printed imprints prints
        (subst (λ (n : ℕ). FitsUpTo imprints prints n []) done
        (subst (λ (l : List ℕ). FitsUpTo imprints prints place l) (drop_all (length prints) prints (omega arith)) (r.sound (length prints) has)))

    pub left_over : (Has all (length prints) → ⊥) → (t : ℕ) → Has all t → t ≤ length prints → DiffersAt imprints prints (length imprints) t
    left_over none t has inside = record {
      inside = inside;
      fits = subst (λ (n : ℕ). FitsUpTo imprints prints n (drop t prints)) done (r.sound t has);
      no_further = λ rest fits. fits_few imprints prints (length imprints + 1) rest (omega arith) fits;
      unprinted = λ printed.
          let w = r.complete [] (subst (λ (n : ℕ). FitsUpTo imprints prints n []) (sym done) (printed_fits imprints prints printed)) in
          let upto = has_inside (length prints) all w.0 r.inside w.1 in
          let left = length-drop w.0 prints in
          let over : 0 ≡ length (drop w.0 prints) = ap (λ (l : List ℕ). length l) w.2 in
          let at : w.0 ≡ length prints = omega (arith, upto, left, over) in
          none (subst (λ (n : ℕ). Has all n) at w.1);
    }

-- whether there are none
pub is_none : (l : List Places) (none : Bool) → none ≡ (length l == 0) → none ≡ true → length l ≡ 0
is_none l none is holds = eqb-true (length l) 0 (sym is ∙ holds)

pub is_some : (l : List Places) (none : Bool) → none ≡ (length l == 0) → none ≡ false → 0 < length l
is_some [] none is fails = absurd (cc (is, fails))
is_some (p ∷ l) none is fails = omega arith
