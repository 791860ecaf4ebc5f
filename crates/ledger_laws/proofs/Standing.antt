-- The acknowledged refunds are never more than the acknowledged resets: without the last transaction that was applied, a
-- device had cleared no more than it had loaded. And what was loaded is the beginning of what was bought, except for at most one
-- amount of resets and refunds together.
use Rattle.std.proofs.Common.{◌≡◌, ℕ, ◌+◌, ◌<◌, ◌≤◌, Bool, true, false, List, [], ◌∷◌, ◌++◌, length, Some, cond, ⊎_elim, sym, ap, subst, ◌∙◌, arith}
use Rattle.std.specs.Prelude.{◌&&◌}
use Rattle.std.proofs.lemmas.Bool.{cases_lt}
use Rattle.std.proofs.lemmas.Option.{same_Some}
use Rattle.bench_base.specs.declared.{words.Kind.Kind, words.Kind.TheVariants.Enrol, words.Kind.TheVariants.Reset, words.Kind.TheVariants.Audit, words.Kind.TheVariants.Refund, words.Kind.TheVariants.Withdraw, words.Verdict.Verdict, ledger.Commit.Commit, ledger.Commit.TheVariants.Applied, ledger.Commit.TheVariants.Ruled}
use Rattle.bench_base.specs.Rules.{Rules}
use Rattle.bench_base.specs.Kinds.{same_kind, empties, is_granted}
use Rattle.bench_base.proofs.Facts.{some_none, either}
use Rattle.psd_wire.specs.declared.message.Request.{Request}
use Rattle.ledger_terms.specs.Requests.{request_in, in_note, request_of}
use Rattle.ledger_terms.specs.Sums.{adds, takes, buy_of, return_of, clears, loaded, refunded}
use Rattle.ledger_terms.specs.Devices.{asked, number, pending}
use Rattle.ledger_terms.specs.Centres.{ruled, settled}
use Rattle.ledger_terms.specs.InFlight.{ruling_of}
use Rattle.centre_ledger.specs.Records.{last_ruling}
use Rattle.ledger_terms.specs.Further.{Begins, IsCovered}
use Rattle.ledger_laws.proofs.Good.{Good, Fits}
use Rattle.ledger_laws.proofs.Links.{link, waits, waits_some, ruling_le}
use Rattle.ledger_laws.proofs.Money.{funds, loads_account, clears_account, last_is, last_some, ruling_asked, flight_last, flight_before}
use Rattle.ledger_laws.proofs.Lists.{trails}

-- what was loaded and cleared before the last ruling
pub record Prior (loaded cleared added taken : ℕ) : Type 0 where
  pub before_loaded : ℕ
  pub before_cleared : ℕ
  pub loaded_is : loaded ≡ before_loaded + added
  pub cleared_is : cleared ≡ before_cleared + taken
  pub covered : before_cleared ≤ before_loaded

module _ (ρ : Rules) where
  prior : (d : ℕ) (C : List Commit) → Good ρ C → number d C ≡ ruled d C → (x : Verdict × List ℕ) → last_ruling d C ≡ Some x → Prior (loaded d C) (refunded d C) (adds x.0 (request_in x.1)) (takes x.0 (request_in x.1))
  prior d [] g same x h = absurd (some_none (sym h))
  prior d (Applied e n v ∷ C) g same x h = either e d
      (λ t y.
      let fits = subst (λ z. Fits ρ (Applied z n v) C) y g.0 in
      let l = link ρ d C g.1 in
      let w = waits_some ρ (pending d C) (asked d C) (number d C) n fits.note fits.waits (waits ρ d C g.1) in
      let le : n ≤ ruled d C = ruling_le ρ d n (v, fits.note) C fits.ruled_as in
      let is = subst (λ z. ruling_of d z C ≡ Some x) (rw t at (sym same)) (last_is ρ d x C g.1 h) in
      let which : (v, fits.note) ≡ x = same_Some _ _ (sym fits.ruled_as ∙ is) in
      let asked : request_of d n C ≡ request_in fits.note = ap in_note (ruling_asked ρ d n (v, fits.note) C g.1 fits.ruled_as) in
      let add : adds v (request_of d n C) ≡ adds x.0 (request_in x.1) = ap (adds v) asked ∙ ap (λ (z : Verdict × List ℕ). adds z.0 (request_in z.1)) which in
      let take : takes v (request_of d n C) ≡ takes x.0 (request_in x.1) = ap (takes v) asked ∙ ap (λ (z : Verdict × List ℕ). takes z.0 (request_in z.1)) which in
      let f = funds ρ d C g.1 in
      let covered = f.covered in
      rw t (record { before_loaded = loaded d C; before_cleared = refunded d C; loaded_is = ap (λ z. loaded d C + z) add; cleared_is = ap (λ z. refunded d C + z) take; covered = omega arith }))
      (λ t. rw t (prior d C g.1 (rw t at same) x h))
  prior d (Ruled e n v r ∷ C) g same x h = either e d
      (λ t y.
      let fits = subst (λ z. Fits ρ (Ruled z n v r) C) y g.0 in
      let l = link ρ d C g.1 in
      let next = fits.next in
      let now = rw t at same in
      absurd (omega arith))
      (λ t. prior d C g.1 (rw t at same) x (rw t at h))
  prior d (_ ∷ C) g same x h = prior d C g.1 same x h

  pub standing : (C : List Commit) → Good ρ C → (d : ℕ) → IsCovered C d
  standing C g d =
      let l = link ρ d C g in
      let f = funds ρ d C g in
      let covered = f.covered in
      let loads_are = loads_account ρ d C g in
      let clears_are = clears_account ρ d C g in
      ⊎_elim
      (λ (h : settled d C < number d C).
      let same : number d C ≡ ruled d C = omega arith in
      let x = last_some ρ d C (omega arith) in
      let p = prior d C g same x.0 x.1 in
      let loaded_is = p.loaded_is in
      let cleared_is = p.cleared_is in
      let before = p.covered in
      let add = flight_last ρ adds d C g h x.0 x.1 in
      let take = flight_last ρ takes d C g h x.0 x.1 in
      omega arith)
      (λ (h : number d C ≤ settled d C).
      let add = flight_before ρ adds d C g h in
      let take = flight_before ρ takes d C g h in
      omega arith)
      (cases_lt (settled d C) (number d C))

  one_amount : (v : Verdict) (q : Request) → length (buy_of v q) + length (return_of v q) ≤ 1
  unfolding buy_of return_of same_kind
  one_amount v q = go (is_granted v) q.kind
    where
      go : (t : Bool) (k : Kind) → length (cond (t && same_kind k Reset) (q.amount ∷ []) []) + length (cond (t && empties k) (q.amount ∷ []) []) ≤ 1
      go false k = omega arith
      go true Enrol = omega arith
      go true Reset = omega arith
      go true Audit = omega arith
      go true Refund = omega arith
      go true Withdraw = omega arith

  pub begins : (C : List Commit) → Good ρ C → (d : ℕ) → Begins C d
  begins C g d =
      let l = link ρ d C g in
      let b = trails ρ buy_of d C g in
      let t = trails ρ return_of d C g in
      ⊎_elim
      (λ (h : number d C < ruled d C).
      let x = b.odd (omega arith) in
      let y = t.odd (omega arith) in
      let same : y.0 ≡ x.0 = same_Some _ _ (sym y.1 ∙ x.1) in
      record {
        bought = buy_of x.0.0 (request_in x.0.1);
        returned = return_of x.0.0 (request_in x.0.1);
        loads = x.2;
        clears = ap (λ (z : Verdict × List ℕ). return_of z.0 (request_in z.1) ++ clears d C) (sym same) ∙ y.2;
        one = one_amount x.0.0 (request_in x.0.1);
      })
      (λ (h : ruled d C ≤ number d C). record { bought = []; returned = []; loads = b.even (omega arith); clears = t.even (omega arith); one = omega arith })
      (cases_lt (number d C) (ruled d C))
