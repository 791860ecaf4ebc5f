use Rattle.std.proofs.Common.{refl, false, Bool, ◌≡◌, ℕ, ◌++◌, [], ◌∷◌, List, length, ◌||◌, ◌≤◌, ◌⊎◌, length-append, Bool, true, sym, ◌∙◌, ap, subst, rules, arith}
use Rattle.nv_model.specs.Bytes.{SameOutside}
use Rattle.nv_model.specs.Moments.{IsImage, Writes}
use Rattle.nv_model.specs.Replay.{Stand, replay, stood, at_first, marked, fits_all, SinceMoment, within}
use Rattle.nv_model.specs.declared.{step.Step.Step, step.Step.TheVariants.Written}
use Rattle.nv_model.proofs.Ranges.{laid_outside}
use Rattle.nv_model.proofs.Replayed.{write_content, write_base, write_written, write_bases, write_fits, write_places, write_image, write_elapses_else, write_tears, pushed_keeps, stood_end, within_in}
use Rattle.nv_model.proofs.medium.Medium.write.Goals as goal

-- a fact of the record after the write
moved : (P : List ℕ → List Step → Type 0) (b b' : List ℕ) (s s' : List Step) → b ≡ b' → s ≡ s' → P b' s' → P b s
moved P b b' s s' e f p = subst (λ (x : List ℕ). P x s) (sym e) (subst (λ (y : List Step). P b' y) (sym f) p)

grown : (c : goal.After-lay) → c.extend_from_slice.new.self.items ≡ c.args.self.now.bytes.items ++ c.args.piece.now
grown c = search rules

pushed : (c : goal.After-lay) → c.push.new.self.items ≡ c.args.self.now.steps.items ++ Written c.args.at (length c.args.piece.now) (length c.args.self.now.bytes.items) ∷ []
pushed c = search rules

now_is : (c : goal.After-lay) (P : List ℕ → List Step → Type 0) → P (c.args.self.now.bytes.items ++ c.args.piece.now) (c.args.self.now.steps.items ++ Written c.args.at (length c.args.piece.now) (length c.args.self.now.bytes.items) ∷ []) → P c.extend_from_slice.new.self.items c.push.new.self.items
now_is c P p = moved P c.extend_from_slice.new.self.items (c.args.self.now.bytes.items ++ c.args.piece.now) c.push.new.self.items (c.args.self.now.steps.items ++ Written c.args.at (length c.args.piece.now) (length c.args.self.now.bytes.items) ∷ []) (grown c) (pushed c) p

kept : (c : goal.After-lay) → length c.lay.new.content.items ≡ length c.args.self.now.content.items
kept c = ap length c.lay.ensures ∙ (laid_outside c.args.self.now.content.items c.args.at c.args.piece.now c.requires.inside).size

pub invariant_of-self-clause-replayed : goal.invariant_of-self-clause-replayed
invariant_of-self-clause-replayed c =
    let s = c.args.self.now in
    now_is c (λ b l. (replay b l (at_first s.start.items)).content ≡ c.lay.new.content.items)
    (write_content s.bytes.items c.args.piece.now s.steps.items c.args.at s.start.items s.fits s.content.items s.replayed ∙ sym c.lay.ensures)

pub invariant_of-self-clause-based : goal.invariant_of-self-clause-based
invariant_of-self-clause-based c k =
    let s = c.args.self.now in
    now_is c (λ b l. length (stood b l s.start.items k).base ≡ length c.lay.new.content.items)
    (write_bases s.bytes.items c.args.piece.now s.steps.items c.args.at s.start.items s.fits (length s.content.items) s.based k ∙ sym (kept c))

pub invariant_of-self-clause-image : goal.invariant_of-self-clause-image
invariant_of-self-clause-image c =
    let s = c.args.self.now in
    now_is c (λ b l. IsImage (replay b l (at_first s.start.items)).base (replay b l (at_first s.start.items)).written c.lay.new.content.items)
    (subst (λ (i : List ℕ). IsImage (replay (s.bytes.items ++ c.args.piece.now) (s.steps.items ++ Written c.args.at (length c.args.piece.now) (length s.bytes.items) ∷ []) (at_first s.start.items)).base (replay (s.bytes.items ++ c.args.piece.now) (s.steps.items ++ Written c.args.at (length c.args.piece.now) (length s.bytes.items) ∷ []) (at_first s.start.items)).written i) (sym c.lay.ensures)
    (write_image s.bytes.items c.args.piece.now s.steps.items c.args.at s.start.items s.fits s.content.items c.requires.inside s.image))

pub invariant_of-self-clause-fits : goal.invariant_of-self-clause-fits
invariant_of-self-clause-fits c =
    let s = c.args.self.now in
    now_is c (λ b l. fits_all (length b) l ≡ true) (write_fits s.bytes.items c.args.piece.now s.steps.items c.args.at s.start.items s.fits)

now_at : (c : goal.After-self-1) (P : List ℕ → List Step → Type 0) → P (c.args.self.now.bytes.items ++ c.args.piece.now) (c.args.self.now.steps.items ++ Written c.args.at (length c.args.piece.now) (length c.args.self.now.bytes.items) ∷ []) → P c.extend_from_slice.new.self.items c.push.new.self.items
now_at c P p =
    let grown' : c.extend_from_slice.new.self.items ≡ c.args.self.now.bytes.items ++ c.args.piece.now = search rules in
    let pushed' : c.push.new.self.items ≡ c.args.self.now.steps.items ++ Written c.args.at (length c.args.piece.now) (length c.args.self.now.bytes.items) ∷ [] = search rules in
    moved P c.extend_from_slice.new.self.items (c.args.self.now.bytes.items ++ c.args.piece.now) c.push.new.self.items (c.args.self.now.steps.items ++ Written c.args.at (length c.args.piece.now) (length c.args.self.now.bytes.items) ∷ []) grown' pushed' p

pub returns-clause-places : goal.returns-clause-places
returns-clause-places c =
    let s = c.args.self.now in
    now_at c (λ b l. Writes c.args.at (length c.args.piece.now) (marked (replay s.bytes.items s.steps.items (at_first s.start.items)).written s.marks.items) (marked (replay b l (at_first s.start.items)).written s.marks.items))
    (write_places s.bytes.items c.args.piece.now s.steps.items c.args.at s.start.items s.fits s.marks.items)

pub returns-clause-base : goal.returns-clause-base
returns-clause-base c =
    let s = c.args.self.now in
    now_at c (λ b l. (replay b l (at_first s.start.items)).base ≡ (replay s.bytes.items s.steps.items (at_first s.start.items)).base)
    (write_base s.bytes.items c.args.piece.now s.steps.items c.args.at s.start.items s.fits)

pub returns-clause-time : goal.returns-clause-time
returns-clause-time c =
    let s = c.args.self.now in
    let start = s.start.items in
    let marks = s.marks.items in
    let old = SinceMoment s.bytes.items s.steps.items start marks in
    record {
      later = now_at c (λ b l. length s.steps.items ≤ length l) (omega (arith, length-append s.steps.items (Written c.args.at (length c.args.piece.now) (length s.bytes.items) ∷ [])));
      nothing_else = λ t i le.
          now_at c (λ b l. SinceMoment b l start marks t i → old t i ⊎ SinceMoment b l start marks (length s.steps.items) i)
          (write_elapses_else s.bytes.items c.args.piece.now s.steps.items c.args.at start s.fits marks c.requires.marks t i le);
      keeps = λ t i le.
          now_at c (λ b l. old t i → SinceMoment b l start marks t i)
          (pushed_keeps s.bytes.items c.args.piece.now s.steps.items (Written c.args.at (length c.args.piece.now) (length s.bytes.items)) start marks s.fits c.requires.marks t i le);
    }

pub returns-clause-images : goal.returns-clause-images
returns-clause-images c i =
    let s = c.args.self.now in
    let start = s.start.items in
    let marks = s.marks.items in
    let base_long : length (replay s.bytes.items s.steps.items (at_first start)).base ≡ length s.content.items =
    sym (ap (λ (st : Stand). length st.base) (stood_end s.bytes.items s.steps.items start)) ∙ s.based (length s.steps.items) in
    now_at c (λ b l. SinceMoment b l start marks (length s.steps.items) i → (d : List ℕ) × SinceMoment s.bytes.items s.steps.items start marks (length s.steps.items) d × SameOutside c.args.at (length c.args.piece.now) d i)
    (write_tears s.bytes.items c.args.piece.now s.steps.items c.args.at start s.fits marks c.requires.marks (length s.content.items) c.requires.inside base_long i)

pub returns-clause-stand : goal.returns-clause-stand
returns-clause-stand c =
    let s = c.args.self.now in
    now_at c (λ b l. (replay b l (at_first s.start.items)).written ≡ (λ i. (replay s.bytes.items s.steps.items (at_first s.start.items)).written i || within c.args.at (length c.args.piece.now) i))
    (write_written s.bytes.items c.args.piece.now s.steps.items c.args.at s.start.items s.fits)

pub returns-clause-stays_written : goal.returns-clause-stays_written
returns-clause-stays_written c i was =
    let s = c.args.self.now in
    ap (λ (w : ℕ → Bool). w i) (returns-clause-stand c) ∙ or_left ((replay s.bytes.items s.steps.items (at_first s.start.items)).written i) (within c.args.at (length c.args.piece.now) i) was
  where
    or_left : (a b : Bool) → a ≡ true → (a || b) ≡ true
    or_left true b is = refl
    or_left false b is = cc is

pub returns-clause-range : goal.returns-clause-range
returns-clause-range c i le lt =
    let s = c.args.self.now in
    ap (λ (w : ℕ → Bool). w i) (returns-clause-stand c) ∙ or_right ((replay s.bytes.items s.steps.items (at_first s.start.items)).written i) (within c.args.at (length c.args.piece.now) i) (within_in c.args.at (length c.args.piece.now) i le lt)
  where
    or_right : (a b : Bool) → b ≡ true → (a || b) ≡ true
    or_right true b is = refl
    or_right false b is = is
