-- A device that is withdrawn was enrolled.
use Rattle.std.proofs.Common.{◌≡◌, ℕ, Bool, true, false, List, [], ◌∷◌, Option, Some, None, cond, refl, sym, ◌∙◌, ap, true≢false, ⊎_elim}
use Rattle.std.specs.Prelude.{◌==◌, ◌&&◌, IsSome}
use Rattle.std.proofs.lemmas.Bool.{cases_Bool, eqb-true, and_parts}
use Rattle.bench_base.specs.declared.{words.Kind.Kind, words.Kind.TheVariants.Enrol, words.Kind.TheVariants.Reset, words.Kind.TheVariants.Audit, words.Kind.TheVariants.Refund, words.Kind.TheVariants.Withdraw, ledger.Commit.Commit, ledger.Commit.TheVariants.Ruled}
use Rattle.bench_base.specs.Rules.{Rules}
use Rattle.bench_base.specs.Rows.{first_of}
use Rattle.bench_base.specs.Kinds.{same_kind, is_granted}
use Rattle.bench_base.proofs.Facts.{some_by}
use Rattle.ledger_terms.specs.Requests.{request_in}
use Rattle.ledger_terms.specs.Centres.{enrolled, withdrawn}
use Rattle.ledger_laws.proofs.Good.{Good}
use Rattle.ledger_laws.proofs.Lawfulness.{has_owner}

no_enrolment : (k : Kind) → same_kind k Withdraw ≡ true → same_kind k Enrol ≡ false
unfolding same_kind
no_enrolment Enrol h = absurd (true≢false (sym h))
no_enrolment Reset h = absurd (true≢false (sym h))
no_enrolment Audit h = absurd (true≢false (sym h))
no_enrolment Refund h = absurd (true≢false (sym h))
no_enrolment Withdraw h = refl

stays_some : (t : Bool) (o : Option ℕ) (w : ℕ) → IsSome o → IsSome (cond t (first_of o (Some w)) o)
stays_some t None w h = absurd (true≢false (sym h))
stays_some true (Some x) w h = refl
stays_some false (Some x) w h = refl

pub withdrawn_enrolled : (ρ : Rules) (d : ℕ) (C : List Commit) → Good ρ C → withdrawn d C ≡ true → IsSome (enrolled d C)
withdrawn_enrolled ρ d [] g h = absurd (true≢false (sym h))
withdrawn_enrolled ρ d (Ruled e n v note ∷ C) g h = ⊎_elim
    (λ (t : ((e == d) && (is_granted v && same_kind (request_in note).kind Withdraw)) ≡ true).
    let device = and_parts (e == d) _ t in
    let kind = and_parts (is_granted v) _ device.1 in
    let owner = has_owner ρ (Ruled e n v note ∷ C) g (no_enrolment (request_in note).kind kind.1) in
    stays_some _ (enrolled d C) (request_in note).customer (some_by (enrolled d C) (request_in note).customer (ap (λ (i : ℕ). enrolled i C) (sym (eqb-true e d device.0)) ∙ owner)))
    (λ (t : ((e == d) && (is_granted v && same_kind (request_in note).kind Withdraw)) ≡ false).
    stays_some _ (enrolled d C) (request_in note).customer (withdrawn_enrolled ρ d C g.1 (rw t at h)))
    (cases_Bool ((e == d) && (is_granted v && same_kind (request_in note).kind Withdraw)))
withdrawn_enrolled ρ d (_ ∷ C) g h = withdrawn_enrolled ρ d C g.1 h
