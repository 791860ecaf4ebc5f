-- What is pending was asked, and what was asked reads as a Request of its device and number that fits its fields.
use Rattle.std.proofs.Common.{◌≡◌, ℕ, true, false, List, [], ◌∷◌, Option, Some, None, Ok, refl, sym, ap, subst, ◌∙◌, ⊎_elim, true≢false, arith}
use Rattle.std.specs.Prelude.{◌==◌, ◌&&◌}
use Rattle.std.proofs.lemmas.Bool.{eqb-true, cases_Bool, eq-eqb, and_parts}
use Rattle.std.proofs.lemmas.Option.{same_Some}
use Rattle.bench_base.specs.declared.{words.Verdict.Verdict, ledger.Commit.Commit, ledger.Commit.TheVariants.Asked, ledger.Commit.TheVariants.Applied, ledger.Commit.TheVariants.Debited}
use Rattle.bench_base.specs.Rules.{Rules}
use Rattle.bench_base.specs.Ranges.{IsDevice, IsWord}
use Rattle.bench_base.specs.Kinds.{empties}
use Rattle.bench_base.proofs.Facts.{either, first_of_none, found}
use Rattle.psd_wire.specs.declared.message.Message.TheVariants as m
use Rattle.psd_wire.specs.Grammar.{read, IsWhole}
use Rattle.ledger_terms.specs.Requests.{request_in, note_of}
use Rattle.ledger_terms.specs.Devices.{asked, number, pending, unless_applied, frozen, applied_of}
use Rattle.ledger_terms.specs.Lawful.{debited_since}
use Rattle.ledger_laws.proofs.Kept.{note_kept}
use Rattle.ledger_laws.proofs.Good.{Good, Fits}
use Rattle.ledger_laws.proofs.Links.{waits, waits_none, note_le}
use Rattle.ledger_laws.proofs.Money.{ruling_asked}

pub note_new : (d n : ℕ) (r : List ℕ) (C : List Commit) → ((x : List ℕ) → note_of d n C ≡ Some x → ⊥) → note_of d n (Asked d n r ∷ C) ≡ Some r
note_new d n r C none = rw (eq-eqb d d refl, eq-eqb n n refl) (first_of_none (note_of d n C) (Some r) none)

pub record AskedAs (d n : ℕ) (note : List ℕ) : Type 0 where
  pub reads : read note ≡ Ok (m.Request (request_in note))
  pub whole : IsWhole (m.Request (request_in note))
  pub device : (request_in note).device ≡ d
  pub number : (request_in note).number ≡ n
  pub range : IsDevice d × IsWord n

pub unless_some : (n : ℕ) (w : Option (ℕ × List ℕ)) (p : ℕ × List ℕ) → unless_applied n w ≡ Some p → w ≡ Some p
unless_some n None p h = h
unless_some n (Some q) p h = ⊎_elim
    (λ (t : (q.0 == n) ≡ true). absurd (none (rw t at h)))
    (λ (t : (q.0 == n) ≡ false). rw t at h)
    (cases_Bool (q.0 == n))
  where
    none : None ≡ Some p → ⊥
    none e = cc

module _ (ρ : Rules) where
  pub pending_asked : (d : ℕ) (p : ℕ × List ℕ) (C : List Commit) → Good ρ C → pending d C ≡ Some p → note_of d p.0 C ≡ Some p.1
  pending_asked d p [] g h = cc
  pending_asked d p (Asked e n r ∷ C) g h = either e d
      (λ t y.
      let fits = subst (λ z. Fits ρ (Asked z n r) C) y g.0 in
      let idle = waits_none ρ (pending d C) (asked d C) (number d C) fits.idle (waits ρ d C g.1) in
      let next = fits.next in
      let is : (n, r) ≡ p = same_Some _ _ (rw t at h) in
      let new = note_new d n r C (λ x s. let le = note_le ρ d n x C g.1 s in omega arith) in
      let at : note_of d n (Asked e n r ∷ C) ≡ Some r = subst (λ z. note_of d n (Asked z n r ∷ C) ≡ Some r) (sym y) new in
      subst (λ (z : ℕ × List ℕ). note_of d z.0 (Asked e n r ∷ C) ≡ Some z.1) is at)
      (λ t. note_kept d p.0 p.1 (Asked e n r) C (pending_asked d p C g.1 (rw t at h)))
  pending_asked d p (Applied e n v ∷ C) g h = either e d
      (λ t y. pending_asked d p C g.1 (unless_some n (pending d C) p (rw t at h)))
      (λ t. pending_asked d p C g.1 (rw t at h))
  pending_asked d p (_ ∷ C) g h = pending_asked d p C g.1 h

  pub note_reads : (d n : ℕ) (x : List ℕ) (C : List Commit) → Good ρ C → note_of d n C ≡ Some x → AskedAs d n x
  note_reads d n x [] g h = cc
  note_reads d n x (Asked f k r ∷ C) g h = ⊎_elim
      (λ (t : (((f == d) && (k == n)) ≡ true) × (r ≡ x)).
      let p = and_parts (f == d) (k == n) t.0 in
      let e = eqb-true f d p.0 in
      let i = eqb-true k n p.1 in
      subst (AskedAs d n) t.1 (record {
        reads = g.0.reads;
        whole = g.0.whole;
        device = g.0.device ∙ e;
        number = g.0.number ∙ i;
        range = (subst IsDevice e g.2.0, subst IsWord i g.2.1);
      }))
      (λ (o : note_of d n C ≡ Some x). note_reads d n x C g.1 o)
      (found ((f == d) && (k == n)) (note_of d n C) r x h)
  note_reads d n x (_ ∷ C) g h = note_reads d n x C g.1 h

  -- a number that was applied was asked
  pub applied_asked : (d n : ℕ) (v : Verdict) (C : List Commit) → Good ρ C → applied_of d n C ≡ Some v → (note : List ℕ) × (note_of d n C ≡ Some note)
  applied_asked d n v [] g h = cc
  applied_asked d n v (Applied f k w ∷ C) g h = ⊎_elim
      (λ (t : (((f == d) && (k == n)) ≡ true) × (w ≡ v)).
      let p = and_parts (f == d) (k == n) t.0 in
      let fits = subst (λ z. Fits ρ (Applied z k w) C) (eqb-true f d p.0) g.0 in
      (fits.note, subst (λ z. note_of d z C ≡ Some fits.note) (eqb-true k n p.1) (ruling_asked ρ d k (w, fits.note) C g.1 fits.ruled_as)))
      (λ (o : applied_of d n C ≡ Some v). applied_asked d n v C g.1 o)
      (found ((f == d) && (k == n)) (applied_of d n C) w v h)
  applied_asked d n v (Asked f k r ∷ C) g h = let it = applied_asked d n v C g.1 h in (it.0, note_kept d n it.0 (Asked f k r) C it.1)
  applied_asked d n v (_ ∷ C) g h = applied_asked d n v C g.1 h

  -- nothing is debited while a refund or withdrawal is pending
  pub since_asked : (d : ℕ) (p : ℕ × List ℕ) (C : List Commit) → Good ρ C → pending d C ≡ Some p → empties (request_in p.1).kind ≡ true → debited_since d p.0 C ≡ false
  since_asked d p [] g h k = cc
  since_asked d p (Asked e n r ∷ C) g h k = either e d
      (λ t y.
      let is : (n, r) ≡ p = same_Some _ _ (rw t at h) in
      rw (t, eq-eqb n p.0 (ap (λ (z : ℕ × List ℕ). z.0) is)) refl)
      (λ t. rw t (since_asked d p C g.1 (rw t at h) k))
  since_asked d p (Applied e n v ∷ C) g h k = either e d
      (λ t y. since_asked d p C g.1 (unless_some n (pending d C) p (rw t at h)) k)
      (λ t. since_asked d p C g.1 (rw t at h) k)
  since_asked d p (Debited e q a c u v ∷ C) g h k = either e d
      (λ t y.
      let fits = subst (λ z. Fits ρ (Debited z q a c u v) C) y g.0 in
      absurd (true≢false (sym k ∙ (ap frozen (sym h) ∙ fits.free))))
      (λ t. rw t (since_asked d p C g.1 h k))
  since_asked d p (_ ∷ C) g h k = since_asked d p C g.1 h k
