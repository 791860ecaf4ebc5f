use Rattle.std.proofs.Common.{◌≡◌, ◌⊎◌, ℕ, ◌≤◌, ◌++◌, [], ◌∷◌, List, length, length-append, true, false, get_or, sym, ◌∙◌, ap, subst, rules, arith}
use Rattle.std.proofs.lemmas.List.{append-nil}
use Rattle.nv_model.specs.Moments.{IsImage}
use Rattle.nv_model.specs.Replay.{Stand, replay, stood, at_first, marked, fits_all, SinceMoment}
use Rattle.nv_model.specs.declared.{step.Step.Step, step.Step.TheVariants.Synced}
use Rattle.nv_model.proofs.Replayed.{settled, settled_bases, settled_fits, settled_only, settled_stays, settled_else, pushed_keeps}
use Rattle.nv_model.proofs.medium.Medium.settle.Goals as goal

now_is : (c : goal.After-push) (P : List Step → Type 0) → P (c.args.self.now.steps.items ++ Synced ∷ []) → P c.push.new.self.items
now_is c P p =
    let pushed : c.push.new.self.items ≡ c.args.self.now.steps.items ++ Synced ∷ [] = search rules in
    subst P (sym pushed) p

nothing_more : (bytes : List ℕ) (P : List ℕ → Type 0) → P (bytes ++ []) → P bytes
nothing_more bytes P p = subst P (append-nil bytes) p

pub invariant_of-self-clause-replayed : goal.invariant_of-self-clause-replayed
invariant_of-self-clause-replayed c =
    let s = c.args.self.now in
    now_is c (λ l. (replay s.bytes.items l (at_first s.start.items)).content ≡ s.content.items) (ap (λ (st : Stand). st.content) (settled s.bytes.items s.steps.items s.start.items s.fits) ∙ s.replayed)

pub invariant_of-self-clause-based : goal.invariant_of-self-clause-based
invariant_of-self-clause-based c k =
    let s = c.args.self.now in
    now_is c (λ l. length (stood s.bytes.items l s.start.items k).base ≡ length s.content.items) (settled_bases s.bytes.items s.steps.items s.start.items s.fits (length s.content.items) (ap length s.replayed) s.based k)

pub invariant_of-self-clause-image : goal.invariant_of-self-clause-image
invariant_of-self-clause-image c =
    let s = c.args.self.now in
    now_is c (λ l. IsImage (replay s.bytes.items l (at_first s.start.items)).base (replay s.bytes.items l (at_first s.start.items)).written s.content.items)
    (subst (λ (st : Stand). IsImage st.base st.written s.content.items) (sym (settled s.bytes.items s.steps.items s.start.items s.fits)) (record { size = ap length (sym s.replayed); same = λ i not. ap (λ (b : List ℕ). get_or b i 0) (sym s.replayed) }))

pub invariant_of-self-clause-fits : goal.invariant_of-self-clause-fits
invariant_of-self-clause-fits c =
    let s = c.args.self.now in
    now_is c (λ l. fits_all (length s.bytes.items) l ≡ true) (settled_fits s.bytes.items s.steps.items s.start.items s.fits)

now_at : (c : goal.After-self-1) (P : List Step → Type 0) → P (c.args.self.now.steps.items ++ Synced ∷ []) → P c.push.new.self.items
now_at c P p =
    let pushed : c.push.new.self.items ≡ c.args.self.now.steps.items ++ Synced ∷ [] = search rules in
    subst P (sym pushed) p

pub returns-clause-base : goal.returns-clause-base
returns-clause-base c =
    let s = c.args.self.now in
    now_at c (λ l. (replay s.bytes.items l (at_first s.start.items)).base ≡ s.content.items) (ap (λ (st : Stand). st.base) (settled s.bytes.items s.steps.items s.start.items s.fits) ∙ s.replayed)

pub returns-clause-places : goal.returns-clause-places
returns-clause-places c i =
    let s = c.args.self.now in
    now_at c (λ l. marked (replay s.bytes.items l (at_first s.start.items)).written s.marks.items i ≡ false)
    (ap (λ (st : Stand). marked st.written s.marks.items i) (settled s.bytes.items s.steps.items s.start.items s.fits) ∙ c.requires.marks i)

pub returns-clause-time : goal.returns-clause-time
returns-clause-time c =
    let s = c.args.self.now in
    let start = s.start.items in
    let marks = s.marks.items in
    record {
      later = now_at c (λ l. length s.steps.items ≤ length l) (omega (arith, length-append s.steps.items (Synced ∷ [])));
      nothing_else = λ t i le.
          now_at c (λ l. SinceMoment s.bytes.items l start marks t i → SinceMoment s.bytes.items s.steps.items start marks t i ⊎ SinceMoment s.bytes.items l start marks (length s.steps.items) i)
          (nothing_more s.bytes.items (λ b. SinceMoment b (s.steps.items ++ Synced ∷ []) start marks t i → SinceMoment s.bytes.items s.steps.items start marks t i ⊎ SinceMoment b (s.steps.items ++ Synced ∷ []) start marks (length s.steps.items) i)
          (settled_else s.bytes.items s.steps.items start s.fits marks c.requires.marks s.content.items s.replayed s.image t i le));
      keeps = λ t i le.
          now_at c (λ l. SinceMoment s.bytes.items s.steps.items start marks t i → SinceMoment s.bytes.items l start marks t i)
          (nothing_more s.bytes.items (λ b. SinceMoment s.bytes.items s.steps.items start marks t i → SinceMoment b (s.steps.items ++ Synced ∷ []) start marks t i)
          (pushed_keeps s.bytes.items [] s.steps.items Synced start marks s.fits c.requires.marks t i le));
    }

pub returns-clause-images : goal.returns-clause-images
returns-clause-images c i =
    let s = c.args.self.now in
    let start = s.start.items in
    let marks = s.marks.items in
    now_at c (λ l. SinceMoment s.bytes.items l start marks (length s.steps.items) i → SinceMoment s.bytes.items s.steps.items start marks (length s.steps.items) i)
    (nothing_more s.bytes.items (λ b. SinceMoment b (s.steps.items ++ Synced ∷ []) start marks (length s.steps.items) i → SinceMoment s.bytes.items s.steps.items start marks (length s.steps.items) i)
    (settled_stays s.bytes.items s.steps.items start s.fits marks c.requires.marks s.content.items s.replayed s.image i))

pub returns-clause-durable : goal.returns-clause-durable
returns-clause-durable c i =
    let s = c.args.self.now in
    let start = s.start.items in
    let marks = s.marks.items in
    now_at c (λ l. SinceMoment s.bytes.items l start marks (length l) i → i ≡ s.content.items)
    (nothing_more s.bytes.items (λ b. SinceMoment b (s.steps.items ++ Synced ∷ []) start marks (length (s.steps.items ++ Synced ∷ [])) i → i ≡ s.content.items)
    (settled_only s.bytes.items s.steps.items start s.fits marks c.requires.marks s.content.items s.replayed s.image i))
