-- The customer in a Request is the one under which its device is enrolled. A device asks for anything but an enrolment only
-- after one was granted and applied; it keeps that customer; and the centre enrolled it under the same.

use Rattle.std.proofs.Common.{◌≡◌, ℕ, Bool, true, false, List, [], ◌∷◌, Option, Some, None, ◌⊎◌, inl, inr, ⊎_elim, refl, sym, ap, subst, ◌∙◌, true≢false}
use Rattle.std.specs.Prelude.{◌==◌, ◌&&◌, ◌||◌}
use Rattle.std.proofs.lemmas.Bool.{eqb-true, cases_Bool, eq-eqb, and_parts, or_right}
use Rattle.std.proofs.lemmas.Option.{same_Some}
use Rattle.bench_base.specs.declared.{words.Kind.Kind, words.Kind.TheVariants.Enrol, words.Kind.TheVariants.Reset, words.Kind.TheVariants.Audit, words.Kind.TheVariants.Refund, words.Kind.TheVariants.Withdraw, words.Verdict.Verdict, ledger.Commit.Commit, ledger.Commit.TheVariants.Asked, ledger.Commit.TheVariants.Applied, ledger.Commit.TheVariants.Ruled}
use Rattle.bench_base.specs.Rules.{Rules}
use Rattle.bench_base.specs.Kinds.{same_kind, is_granted, is_allowed}
use Rattle.psd_wire.specs.declared.message.Request.{Request}
use Rattle.ledger_terms.specs.Requests.{request_in, note_of, in_note, request_of}
use Rattle.ledger_terms.specs.Devices.{pending, unless_applied, applied_kind, customer, phase_of}
use Rattle.ledger_terms.specs.InFlight.{ruling_of}
use Rattle.ledger_laws.proofs.Good.{Good, Fits}
use Rattle.bench_base.proofs.Facts.{either, kept_first, found}
use Rattle.ledger_terms.specs.Centres.{enrolled}
use Rattle.ledger_laws.proofs.Kept.{enrolled_kept}
use Rattle.ledger_laws.proofs.Money.{ruling_asked}
use Rattle.ledger_laws.proofs.Customers.{grants}
use Rattle.ledger_laws.proofs.Asked.{note_reads}

-- a kind other than enrol is asked for only after an enrolment
needs_enrol : (k : Kind) (w a e : Bool) → same_kind k Enrol ≡ false → is_allowed k (phase_of w a e) ≡ true → (a ≡ true) ⊎ (e ≡ true)
unfolding same_kind
needs_enrol Enrol w a e h x = absurd (true≢false h)
needs_enrol Reset true a e h x = absurd (true≢false (sym x))
needs_enrol Reset false true e h x = inl refl
needs_enrol Reset false false true h x = inr refl
needs_enrol Reset false false false h x = absurd (true≢false (sym x))
needs_enrol Audit true a e h x = absurd (true≢false (sym x))
needs_enrol Audit false true e h x = inl refl
needs_enrol Audit false false true h x = inr refl
needs_enrol Audit false false false h x = absurd (true≢false (sym x))
needs_enrol Refund true a e h x = absurd (true≢false (sym x))
needs_enrol Refund false true e h x = inl refl
needs_enrol Refund false false true h x = inr refl
needs_enrol Refund false false false h x = absurd (true≢false (sym x))
needs_enrol Withdraw true a e h x = absurd (true≢false (sym x))
needs_enrol Withdraw false true e h x = inl refl
needs_enrol Withdraw false false true h x = inr refl
needs_enrol Withdraw false false false h x = absurd (true≢false (sym x))

audit_not_enrol : (k : Kind) → same_kind k Audit ≡ true → same_kind k Enrol ≡ false
unfolding same_kind
audit_not_enrol Enrol h = absurd (true≢false (sym h))
audit_not_enrol Reset h = refl
audit_not_enrol Audit h = refl
audit_not_enrol Refund h = refl
audit_not_enrol Withdraw h = refl

Enrolled : Option (ℕ × List ℕ) → Bool → Type 0
Enrolled None e = Unit {0}
Enrolled (Some p) e = same_kind (request_in p.1).kind Enrol ≡ false → e ≡ true

-- an audit was applied only after an enrolment, and so was what is pending except for an enrolment
record Staged (w : Option (ℕ × List ℕ)) (audit enrol : Bool) : Type 0 where
  audited : audit ≡ true → enrol ≡ true
  pends : Enrolled w enrol

module _ (ρ : Rules) where
  staged_applied : (n : ℕ) (note : List ℕ) (w : Option (ℕ × List ℕ)) (a e g : Bool) (q : Request) → w ≡ Some (n, note) → q ≡ request_in note → Staged w a e → Staged (unless_applied n w) ((g && same_kind q.kind Audit) || a) ((g && same_kind q.kind Enrol) || e)
  unfolding Enrolled
  staged_applied n note None a e g q h is s = cc
  staged_applied n note (Some p) a e g q h is s =
      let same : p.0 ≡ n = ap (λ (z : ℕ × List ℕ). z.0) (same_Some _ _ h) in
      let what : request_in p.1 ≡ q = ap (λ (z : ℕ × List ℕ). request_in z.1) (same_Some _ _ h) ∙ sym is in
      let before : same_kind q.kind Enrol ≡ false → e ≡ true = subst (λ (z : Request). same_kind z.kind Enrol ≡ false → e ≡ true) what s.pends in
      rw (eq-eqb p.0 n same) (record {
        audited = λ t. or_right (g && same_kind q.kind Enrol) e (⊎_elim
            (λ (x : (g && same_kind q.kind Audit) ≡ true). before (audit_not_enrol q.kind (and_parts g (same_kind q.kind Audit) x).1))
            (λ (x : (g && same_kind q.kind Audit) ≡ false). s.audited (rw x at t))
            (cases_Bool (g && same_kind q.kind Audit)));
        pends = tt;
      })

  staged : (d : ℕ) (C : List Commit) → Good ρ C → Staged (pending d C) (applied_kind Audit d C) (applied_kind Enrol d C)
  unfolding Enrolled
  staged d [] g = record { audited = λ t. t; pends = tt }
  staged d (Asked f n r ∷ C) g =
      let s = staged d C g.1 in
      either f d
      (λ t y.
      let fits = subst (λ z. Fits ρ (Asked z n r) C) y g.0 in
      rw t (record {
        audited = s.audited;
        pends = λ k. ⊎_elim (λ (a : applied_kind Audit d C ≡ true). s.audited a) (λ (e : applied_kind Enrol d C ≡ true). e) (needs_enrol (request_in r).kind (applied_kind Withdraw d C) (applied_kind Audit d C) (applied_kind Enrol d C) k fits.allowed);
      }))
      (λ t. rw t s)
  staged d (Applied f n v ∷ C) g =
      let s = staged d C g.1 in
      either f d
      (λ t y.
      let fits = subst (λ z. Fits ρ (Applied z n v) C) y g.0 in
      let is : request_of d n C ≡ request_in fits.note = ap in_note (ruling_asked ρ d n (v, fits.note) C g.1 fits.ruled_as) in
      rw t (staged_applied n fits.note (pending d C) (applied_kind Audit d C) (applied_kind Enrol d C) (is_granted v) (request_of d n C) fits.waits is s))
      (λ t. rw t s)
  staged d (_ ∷ C) g = staged d C g.1

  -- the customer of a granted enrolment
  enrolled_ruled : (d n : ℕ) (x : Verdict × List ℕ) (C : List Commit) → Good ρ C → ruling_of d n C ≡ Some x → (is_granted x.0 && same_kind (request_in x.1).kind Enrol) ≡ true → enrolled d C ≡ Some (request_in x.1).customer
  enrolled_ruled d n x [] g h k = cc
  enrolled_ruled d n x (Ruled f m w s ∷ C) g h k = ⊎_elim
      (λ (t : (((f == d) && (m == n)) ≡ true) × ((w, s) ≡ x)).
      let p = and_parts (f == d) (m == n) t.0 in
      let kind : (is_granted w && same_kind (request_in s).kind Enrol) ≡ true = subst (λ (z : Verdict × List ℕ). (is_granted z.0 && same_kind (request_in z.1).kind Enrol) ≡ true) (sym t.1) k in
      let both = and_parts (is_granted w) (same_kind (request_in s).kind Enrol) kind in
      let device = (note_reads ρ f m s C g.1 g.0.asked_as).device ∙ eqb-true f d p.0 in
      let none : enrolled d C ≡ None = subst (λ z. enrolled z C ≡ None) device ((grants C (request_in s) (ap is_granted (sym g.0.verdict) ∙ both.0)).enrol both.1) in
      rw (p.0, kind, none) (ap (λ (z : Verdict × List ℕ). Some (request_in z.1).customer) t.1))
      (λ (o : ruling_of d n C ≡ Some x). kept_first ((f == d) && (is_granted w && same_kind (request_in s).kind Enrol)) (enrolled d C) (request_in s).customer (request_in x.1).customer (enrolled_ruled d n x C g.1 o k))
      (found ((f == d) && (m == n)) (ruling_of d n C) (w, s) x h)
  enrolled_ruled d n x (_ ∷ C) g h k = enrolled_ruled d n x C g.1 h k

  -- after an enrolment the device keeps the customer under which the centre enrolled it
  owned : (d : ℕ) (C : List Commit) → Good ρ C → applied_kind Enrol d C ≡ true → enrolled d C ≡ Some (customer d C)
  owned d [] g h = absurd (true≢false (sym h))
  owned d (Applied f n v ∷ C) g h = either f d
      (λ t y.
      let fits = subst (λ z. Fits ρ (Applied z n v) C) y g.0 in
      let is : request_of d n C ≡ request_in fits.note = ap in_note (ruling_asked ρ d n (v, fits.note) C g.1 fits.ruled_as) in
      ⊎_elim
      (λ (k : (is_granted v && same_kind (request_of d n C).kind Enrol) ≡ true).
      let kind = subst (λ (z : Request). (is_granted v && same_kind z.kind Enrol) ≡ true) is k in
      rw (t, k) (enrolled_ruled d n (v, fits.note) C g.1 fits.ruled_as kind ∙ ap (λ (z : Request). Some z.customer) (sym is)))
      (λ (k : (is_granted v && same_kind (request_of d n C).kind Enrol) ≡ false). let h' : applied_kind Enrol d C ≡ true = rw (t, k) at h in rw (t, k) (owned d C g.1 h'))
      (cases_Bool (is_granted v && same_kind (request_of d n C).kind Enrol)))
      (λ t. let h' : applied_kind Enrol d C ≡ true = rw t at h in rw t (owned d C g.1 h'))
  owned d (Ruled f m w s ∷ C) g h = kept_first ((f == d) && (is_granted w && same_kind (request_in s).kind Enrol)) (enrolled d C) (request_in s).customer (customer d C) (owned d C g.1 h)
  owned d (_ ∷ C) g h = owned d C g.1 h

  -- each Request but an enrolment has the customer under which its device is enrolled
  pub owner : (d n : ℕ) (r : List ℕ) (C : List Commit) → Good ρ C → note_of d n C ≡ Some r → same_kind (request_in r).kind Enrol ≡ false → enrolled d C ≡ Some (request_in r).customer
  owner d n r [] g h k = cc
  owner d n r (Asked f m s ∷ C) g h k = ⊎_elim
      (λ (t : (((f == d) && (m == n)) ≡ true) × (s ≡ r)).
      let p = and_parts (f == d) (m == n) t.0 in
      let fits = subst (λ z. Fits ρ (Asked z m s) C) (eqb-true f d p.0) g.0 in
      let kind = subst (λ z. same_kind (request_in z).kind Enrol ≡ false) (sym t.1) k in
      let st = staged d C g.1 in
      let enrol = ⊎_elim (λ (a : applied_kind Audit d C ≡ true). st.audited a) (λ (e : applied_kind Enrol d C ≡ true). e) (needs_enrol (request_in s).kind (applied_kind Withdraw d C) (applied_kind Audit d C) (applied_kind Enrol d C) kind fits.allowed) in
      owned d C g.1 enrol ∙ ap (λ x. Some x) (sym (fits.owner kind)) ∙ ap (λ (z : List ℕ). Some (request_in z).customer) t.1)
      (λ (o : note_of d n C ≡ Some r). owner d n r C g.1 o k)
      (found ((f == d) && (m == n)) (note_of d n C) s r h)
  owner d n r (c ∷ C) g h k = enrolled_kept d (request_in r).customer c C (owner d n r C g.1 h k)
