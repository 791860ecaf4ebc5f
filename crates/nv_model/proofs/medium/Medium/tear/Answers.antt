use Rattle.std.proofs.Common.{◌≡◌, ◌⊎◌, ℕ, ◌≤◌, ◌++◌, [], ◌∷◌, List, length, length-append, replicate, Bool, true, sym, ◌∙◌, ap, subst, rules, arith}
use Rattle.nv_model.specs.Bytes.{laid, SameOutside}
use Rattle.nv_model.specs.Moments.{IsImage}
use Rattle.nv_model.specs.Replay.{replay, stood, at_first, fits_all, SinceMoment}
use Rattle.nv_model.specs.declared.{step.Step.Step, step.Step.TheVariants.Torn}
use Rattle.std.proofs.lemmas.List.{length-replicate}
use Rattle.nv_model.proofs.Ranges.{laid_outside}
use Rattle.nv_model.proofs.Images.{image_torn}
use Rattle.nv_model.proofs.Torn.{torn_content, torn_base, torn_places, torn_fits, torn_bases, torn_image, torn_keeps, torn_stays, torn_else}
use Rattle.nv_model.proofs.medium.Medium.tear.Goals as goal

pushed : (c : goal.After-lay_run) (P : List Step → Type 0) → P (c.args.self.now.steps.items ++ Torn c.args.at c.args.count c.args.byte ∷ []) → P c.push.new.self.items
pushed c P p =
    let is : c.push.new.self.items ≡ c.args.self.now.steps.items ++ Torn c.args.at c.args.count c.args.byte ∷ [] = search rules in
    subst P (sym is) p

outside : (c : goal.After-lay_run) → SameOutside c.args.at c.args.count c.args.self.now.content.items c.lay_run.new.content.items
outside c =
    let content = c.args.self.now.content.items in
    let run = replicate c.args.count c.args.byte in
    let long : length run ≡ c.args.count = length-replicate c.args.count c.args.byte in
    subst (λ (l : List ℕ). SameOutside c.args.at c.args.count content l) (sym c.lay_run.ensures)
    (subst (λ (n : ℕ). SameOutside c.args.at n content (laid content c.args.at run)) long (laid_outside content c.args.at run (omega (arith, long, c.requires.inside))))

pub invariant_of-self-clause-replayed : goal.invariant_of-self-clause-replayed
invariant_of-self-clause-replayed c =
    let s = c.args.self.now in
    pushed c (λ l. (replay s.bytes.items l (at_first s.start.items)).content ≡ c.lay_run.new.content.items)
    (torn_content s.bytes.items s.steps.items c.args.at c.args.count c.args.byte s.start.items s.fits s.content.items s.replayed ∙ sym c.lay_run.ensures)

pub invariant_of-self-clause-based : goal.invariant_of-self-clause-based
invariant_of-self-clause-based c k =
    let s = c.args.self.now in
    pushed c (λ l. length (stood s.bytes.items l s.start.items k).base ≡ length c.lay_run.new.content.items)
    (torn_bases s.bytes.items s.steps.items c.args.at c.args.count c.args.byte s.start.items s.fits (length s.content.items) s.based k ∙ sym (outside c).size)

pub invariant_of-self-clause-image : goal.invariant_of-self-clause-image
invariant_of-self-clause-image c =
    let s = c.args.self.now in
    let stand = replay s.bytes.items s.steps.items (at_first s.start.items) in
    pushed c (λ l. IsImage (replay s.bytes.items l (at_first s.start.items)).base (replay s.bytes.items l (at_first s.start.items)).written c.lay_run.new.content.items)
    (torn_image s.bytes.items s.steps.items c.args.at c.args.count c.args.byte s.start.items s.fits c.lay_run.new.content.items
    (image_torn stand.base stand.written c.args.at c.args.count s.content.items c.lay_run.new.content.items c.requires.written s.image (outside c)))

pub invariant_of-self-clause-fits : goal.invariant_of-self-clause-fits
invariant_of-self-clause-fits c =
    let s = c.args.self.now in
    pushed c (λ l. fits_all (length s.bytes.items) l ≡ true) (torn_fits s.bytes.items s.steps.items c.args.at c.args.count c.args.byte s.start.items s.fits)

now_at : (c : goal.After-self-1) (P : List Step → Type 0) → P (c.args.self.now.steps.items ++ Torn c.args.at c.args.count c.args.byte ∷ []) → P c.push.new.self.items
now_at c P p =
    let is : c.push.new.self.items ≡ c.args.self.now.steps.items ++ Torn c.args.at c.args.count c.args.byte ∷ [] = search rules in
    subst P (sym is) p

pub returns-clause-base : goal.returns-clause-base
returns-clause-base c =
    let s = c.args.self.now in
    now_at c (λ l. (replay s.bytes.items l (at_first s.start.items)).base ≡ (replay s.bytes.items s.steps.items (at_first s.start.items)).base)
    (torn_base s.bytes.items s.steps.items c.args.at c.args.count c.args.byte s.start.items s.fits)

pub returns-clause-stand : goal.returns-clause-stand
returns-clause-stand c =
    let s = c.args.self.now in
    now_at c (λ l. (replay s.bytes.items l (at_first s.start.items)).written ≡ (replay s.bytes.items s.steps.items (at_first s.start.items)).written)
    (torn_places s.bytes.items s.steps.items c.args.at c.args.count c.args.byte s.start.items s.fits)

pub returns-clause-time : goal.returns-clause-time
returns-clause-time c =
    let s = c.args.self.now in
    let start = s.start.items in
    let marks = s.marks.items in
    let old = SinceMoment s.bytes.items s.steps.items start marks in
    let at = c.args.at in
    let n = c.args.count in
    let byte = c.args.byte in
    record {
      later = now_at c (λ l. length s.steps.items ≤ length l) (omega (arith, length-append s.steps.items (Torn at n byte ∷ [])));
      nothing_else = λ t i le.
          now_at c (λ l. SinceMoment s.bytes.items l start marks t i → old t i ⊎ SinceMoment s.bytes.items l start marks (length s.steps.items) i)
          (torn_else s.bytes.items s.steps.items at n byte start s.fits marks c.requires.marks t i le);
      keeps = λ t i le.
          now_at c (λ l. old t i → SinceMoment s.bytes.items l start marks t i)
          (torn_keeps s.bytes.items s.steps.items at n byte start s.fits marks c.requires.marks t i le);
    }

pub returns-clause-images : goal.returns-clause-images
returns-clause-images c i =
    let s = c.args.self.now in
    now_at c (λ l. SinceMoment s.bytes.items l s.start.items s.marks.items (length s.steps.items) i → SinceMoment s.bytes.items s.steps.items s.start.items s.marks.items (length s.steps.items) i)
    (torn_stays s.bytes.items s.steps.items c.args.at c.args.count c.args.byte s.start.items s.fits s.marks.items c.requires.marks i)

pub returns-clause-stays_written : goal.returns-clause-stays_written
returns-clause-stays_written c i was = ap (λ (w : ℕ → Bool). w i) (returns-clause-stand c) ∙ was
