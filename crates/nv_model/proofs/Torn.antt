-- A range filled with a byte, and marks for writes that the record has no room for.
use Rattle.std.proofs.Common.{◌≡◌, ◌⊎◌, inl, inr, ⊎_elim, ℕ, ◌+◌, ◌≤◌, List, [], ◌∷◌, ◌++◌, length, get_or, replicate, Bool, true, false, ◌||◌, sym, ◌∙◌, ap, subst, arith, refl, length-append}
use Rattle.std.proofs.lemmas.Bool.{cases_lt, or_right, and_parts, and_from}
use Rattle.std.proofs.lemmas.List.{append-nil, take-append-le, take_all}
use Rattle.nv_model.specs.Bytes.{laid}
use Rattle.nv_model.specs.Moments.{Times, Tears, IsImage, Writes}
use Rattle.nv_model.specs.Replay.{Stand, after_step, replay, at_first, stood, marked, Stands, SinceMoment, fits_all}
use Rattle.nv_model.specs.declared.{step.Step.Step, step.Step.TheVariants.Written, step.Step.TheVariants.Torn, step.Step.TheVariants.Synced}
use Rattle.nv_model.proofs.Replayed.{replay_push, stood_end, pushed_keeps, pushed_else, image_before}

module _ (bytes : List ℕ) (steps : List Step) (at n byte : ℕ) (start : List ℕ) (fits : fits_all (length bytes) steps ≡ true) where
  abbrev torn : Step
  torn = Torn at n byte

  abbrev before : Stand
  before = replay bytes steps (at_first start)

  abbrev after : Stand
  after = replay bytes (steps ++ torn ∷ []) (at_first start)

  pub torn_stand : after ≡ after_step bytes torn before
  torn_stand = replay_push bytes steps torn (at_first start)

  pub torn_content : (content : List ℕ) → before.content ≡ content → after.content ≡ laid content at (replicate n byte)
  torn_content content is = ap (λ (s : Stand). s.content) torn_stand ∙ ap (λ (l : List ℕ). laid l at (replicate n byte)) is

  pub torn_base : after.base ≡ before.base
  torn_base = ap (λ (s : Stand). s.base) torn_stand

  pub torn_places : after.written ≡ before.written
  torn_places = ap (λ (s : Stand). s.written) torn_stand

  pub torn_fits : fits_all (length bytes) (steps ++ torn ∷ []) ≡ true
  torn_fits = go steps fits
    where
      go : (l : List Step) → fits_all (length bytes) l ≡ true → fits_all (length bytes) (l ++ torn ∷ []) ≡ true
      go [] f = refl
      go (Written a len first ∷ l) f = let both = and_parts _ (fits_all (length bytes) l) f in and_from _ (fits_all (length bytes) (l ++ torn ∷ [])) both.0 (go l both.1)
      go (Torn a len b ∷ l) f = go l f
      go (Synced ∷ l) f = go l f

  pub torn_bases : (size : ℕ) → ((k : ℕ) → length (stood bytes steps start k).base ≡ size) → (k : ℕ) → length (stood bytes (steps ++ torn ∷ []) start k).base ≡ size
  torn_bases size all k = elim (cases_lt (length steps) k) [
    | inl lt ↦ ap (λ (l : List Step). length (replay bytes l (at_first start)).base) (take_all k (steps ++ torn ∷ []) (omega (arith, length-append steps (torn ∷ []))))
        ∙ ap length torn_base ∙ sym (ap (λ (s : Stand). length s.base) (stood_end bytes steps start)) ∙ all (length steps)
    | inr ge ↦ ap (λ (l : List Step). length (replay bytes l (at_first start)).base) (take-append-le k steps (torn ∷ []) ge) ∙ all k
  ]

  pub torn_image : (c : List ℕ) → IsImage before.base before.written c → IsImage after.base after.written c
  torn_image c image = subst (λ (s : Stand). IsImage s.base s.written c) (sym torn_stand) (record { size = image.size; same = image.same })

  module _ (marks : List Bool) (none : (i : ℕ) → get_or marks i false ≡ false) where
    abbrev old : ℕ → List ℕ → Type 0
    old = SinceMoment bytes steps start marks

    abbrev new : ℕ → List ℕ → Type 0
    new = SinceMoment bytes (steps ++ torn ∷ []) start marks

    unpadded : (P : List ℕ → Type 0) → P (bytes ++ []) → P bytes
    unpadded P p = subst P (append-nil bytes) p

    pub torn_keeps : (t : ℕ) (c : List ℕ) → t ≤ length steps → old t c → new t c
    torn_keeps t c le was = unpadded (λ b. SinceMoment b (steps ++ torn ∷ []) start marks t c) (pushed_keeps bytes [] steps torn start marks fits none t c le was)

    -- an image of now is one of the moment before
    back : (c : List ℕ) → Stands bytes (steps ++ torn ∷ []) start marks (length (steps ++ torn ∷ [])) c → old (length steps) c
    back c stands = inr (record {
      from = omega arith;
      image = subst (λ (s : Stand). IsImage s.base (marked s.written marks) c) torn_stand stands.image;
    })

    else_ : (t : ℕ) (c : List ℕ) → new t c → old t c ⊎ Stands bytes (steps ++ torn ∷ []) start marks (length (steps ++ torn ∷ [])) c
    else_ t c now = unpadded (λ b. SinceMoment b (steps ++ torn ∷ []) start marks t c → old t c ⊎ Stands b (steps ++ torn ∷ []) start marks (length (steps ++ torn ∷ [])) c)
        (pushed_else bytes [] steps torn start marks fits none t c) now

    pub torn_stays : (c : List ℕ) → new (length steps) c → old (length steps) c
    torn_stays c now = ⊎_elim (λ was. was) (λ stands. back c stands) (else_ (length steps) c now)

    pub torn_else : (t : ℕ) (c : List ℕ) → t ≤ length steps → new t c → old t c ⊎ new (length steps) c
    torn_else t c le now = ⊎_elim (λ was. inl was) (λ stands. inr (inr (record { from = omega (arith, length-append steps (torn ∷ [])); image = stands.image }))) (else_ t c now)

-- marks
module _ (bytes : List ℕ) (steps : List Step) (start : List ℕ) where
  abbrev stand : Stand
  stand = replay bytes steps (at_first start)

  pub marks_places : (old new : List Bool) (at n : ℕ) → Writes at n (λ i. get_or old i false) (λ i. get_or new i false) → Writes at n (marked stand.written old) (marked stand.written new)
  marks_places old new at n writes = record {
    inside = λ i le lt. or_right (stand.written i) (get_or new i false) (writes.inside i le lt);
    outside = λ i out. ap (λ (b : Bool). stand.written i || b) (writes.outside i out);
  }

  abbrev times : List Bool → Times
  times marks = record { moment = length steps; since = λ t c. SinceMoment bytes steps start marks t c }

  pub marks_tears : (old new : List Bool) (at n : ℕ) → at + n ≤ length stand.base → Writes at n (λ i. get_or old i false) (λ i. get_or new i false) → Tears at n (times old) (times new)
  marks_tears old new at n room writes c now = ⊎_elim
      (λ passed. absurd (omega (arith, passed.from, passed.passed)))
      (λ stands. let from = image_before stand.base c at n (marked stand.written old) (marked stand.written new) (marks_places old new at n writes) room stands.image in (from.0, inr (record { from = omega arith; image = from.1 }), from.2))
      now
