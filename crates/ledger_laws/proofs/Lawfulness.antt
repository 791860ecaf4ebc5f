-- Every history is lawful: each clause follows from a good list of commits, or from what the invariant says of the newest
-- entry. A ledger's counted commits are good wherever those of a later one are, so each prefix is covered.
use Rattle.std.proofs.Common.{◌≡◌, ℕ, ◌+◌, ◌-◌, ◌<◌, ◌≤◌, true, false, List, [], ◌∷◌, Option, Some, None, refl, sym, ap, subst, ◌∙◌, true≢false, inl, inr, ⊎_elim, arith}
use Rattle.std.specs.Prelude.{is_some}
use Rattle.std.proofs.lemmas.Bool.{cases_Bool, cases_lt, eq-eqb}
use Rattle.std.proofs.lemmas.Option.{same_Some}
use Rattle.bench_base.specs.declared.{words.Kind.Kind, words.Kind.TheVariants.Enrol, words.Kind.TheVariants.Reset, words.Kind.TheVariants.Audit, words.Kind.TheVariants.Refund, words.Kind.TheVariants.Withdraw, words.Verdict.Verdict, ledger.Commit.Commit, ledger.Commit.TheVariants.Asked, ledger.Commit.TheVariants.Applied, ledger.Commit.TheVariants.Debited, ledger.Commit.TheVariants.Deposited, ledger.Commit.TheVariants.Ruled, ledger.Commit.TheVariants.Settled, ledger.Commit.TheVariants.Held, ledger.Commit.TheVariants.Accepted}
use Rattle.bench_base.specs.Rules.{Rules}
use Rattle.bench_base.specs.Kinds.{same_kind, empties, is_granted}
use Rattle.bench_base.specs.Ledger.{Ledger, counted}
use Rattle.bench_base.proofs.Facts.{some_none, either, none_if}
use Rattle.psd_wire.specs.declared.message.Request.{Request}
use Rattle.ledger_terms.specs.Requests.{request_in, note_of, in_note, request_of}
use Rattle.ledger_terms.specs.Sums.{adds, takes, loaded, descending}
use Rattle.ledger_terms.specs.Devices.{asked, number, applied_of, pending}
use Rattle.ledger_terms.specs.Centres.{ruled, deposits, stored_request}
use Rattle.ledger_terms.specs.InFlight.{ruling_of}
use Rattle.centre_ledger.specs.Records.{last_ruling}
use Rattle.ledger_terms.specs.Lawful.{Always, asks, Numbering, NextDebit, Totals, Refunds, AfterApplied, Accounts, Solvent, Days, AcceptedOnce, HeldOnce, held_piece, LawfulAt, Lawful}
use Rattle.ledger_terms.specs.Links.{Link}
use Rattle.ledger_terms.specs.Further.{HasOwner, NoImbalance, IsFitting}
use Rattle.ledger_laws.proofs.Good.{Good, Fits}
use Rattle.ledger_laws.proofs.Links.{link, waits, waits_none, waits_some, ruling_le, note_le, applied_le}
use Rattle.ledger_laws.proofs.Money.{Keeps, funds, account, applied_some, ruling_asked, last_is, last_some}
use Rattle.ledger_laws.proofs.Asked.{pending_asked, since_asked}
use Rattle.ledger_laws.proofs.Requests.{sane_here, some_if}
use Rattle.ledger_laws.proofs.Customers.{solvent}
use Rattle.ledger_laws.proofs.Owners.{owner}
use Rattle.ledger_laws.proofs.Jobs.{jobs}
use Rattle.ledger_laws.proofs.HostPlans.{good_before}
use Rattle.ledger_laws.proofs.Grown.{Inv, Told, NewestSure}

not_reset : (k : Kind) → empties k ≡ true → same_kind k Reset ≡ false
unfolding same_kind
not_reset Enrol h = refl
not_reset Reset h = absurd (true≢false (sym h))
not_reset Audit h = refl
not_reset Refund h = refl
not_reset Withdraw h = refl

module _ (ρ : Rules) where
  -- == numbering ==

  asks_asked : (d : ℕ) (C : List Commit) → Good ρ C → asks d C ≡ asked d C
  asks_asked d [] g = refl
  asks_asked d (Asked f n r ∷ C) g = either f d
      (λ t x.
      let fits = subst (λ y. Fits ρ (Asked y n r) C) x g.0 in
      let w = waits_none ρ (pending d C) (asked d C) (number d C) fits.idle (waits ρ d C g.1) in
      let next = fits.next in
      let is = asks_asked d C g.1 in
      rw t (omega arith))
      (λ t. rw t (asks_asked d C g.1))
  asks_asked d (_ ∷ C) g = asks_asked d C g.1

  numbering : (C : List Commit) → Good ρ C → Numbering C
  numbering [] g = tt
  numbering (Asked d n r ∷ C) g =
      let w = waits_none ρ (pending d C) (asked d C) (number d C) g.0.idle (waits ρ d C g.1) in
      let is = asks_asked d C g.1 in
      let next : n ≡ number d C + 1 = g.0.next in (
        omega arith,
        ⊎_elim
            (λ (h : 0 < number d C). let k : number d C ≡ n - 1 = omega arith in inr (ap is_some (applied_some ρ d (n - 1) C k (omega arith)).1))
            (λ (h : number d C ≤ 0). inl (omega arith))
            (cases_lt 0 (number d C)),
      )
  numbering (Ruled d n v r ∷ C) g =
      let next = g.0.next in
      (none_if (ruling_of d n C) (λ y o. let le = ruling_le ρ d n y C o in omega arith), g.0.asked_as)
  numbering (Applied d n v ∷ C) g =
      let w = waits_some ρ (pending d C) (asked d C) (number d C) n g.0.note g.0.waits (waits ρ d C g.1) in
      (none_if (applied_of d n C) (λ y o. let le = applied_le ρ d n y C g.1 o in omega arith), g.0.note, g.0.ruled_as)
  numbering (_ ∷ C) g = tt

  -- == debits and days ==

  next_debit : (C : List Commit) → Good ρ C → NextDebit ρ C
  next_debit [] g = tt
  next_debit (Debited d p a k t v ∷ C) g = record { next = g.0.next; low = g.0.low; high = g.0.high; funded = g.0.funded; from_1 = g.0.from_1; known = g.0.known }
  next_debit (_ ∷ C) g = tt

  totals : (C : List Commit) → Good ρ C → (d : ℕ) → Totals ρ C d
  totals C g d =
      let f = funds ρ d C g in
      let covered = f.covered in
      let within = f.within in
      record { covered = covered; within = omega arith }

  days : (C : List Commit) → Good ρ C → Days ρ C
  days [] g = tt
  days (Debited d p a k t v ∷ C) g = (record { forward = g.0.day; due = g.0.due; small = g.0.small }, g.0.serves, g.0.free)
  days (_ ∷ C) g = tt

  -- == refunds ==

  -- a refund that is pending is of all that is left
  all_left : (w : Option (ℕ × List ℕ)) (p : ℕ × List ℕ) (loaded left : ℕ) → w ≡ Some p → Keeps ρ w loaded left → empties (request_in p.1).kind ≡ true → (request_in p.1).amount ≡ left
  all_left None p loaded left h k = absurd (some_none (sym h))
  all_left (Some q) p loaded left h k = subst (λ (z : ℕ × List ℕ). empties (request_in z.1).kind ≡ true → (request_in z.1).amount ≡ left) (same_Some _ _ h) k.0

  no_adds : (v : Verdict) (q : Request) → empties q.kind ≡ true → adds v q ≡ 0
  unfolding adds
  no_adds v q h = rw (not_reset q.kind h) (⊎_elim (λ (t : is_granted v ≡ true). rw t refl) (λ (t : is_granted v ≡ false). rw t refl) (cases_Bool (is_granted v)))

  takes_all : (v : Verdict) (q : Request) → is_granted v ≡ true → empties q.kind ≡ true → takes v q ≡ q.amount
  unfolding takes
  takes_all v q g h = rw (g, h) refl

  refunds : (C : List Commit) → Good ρ C → Refunds C
  refunds [] g = tt
  refunds (Ruled d n v r ∷ C) g = λ granted kind.
      let l = link ρ d C g.1 in
      let next = g.0.next in
      let le = note_le ρ d n r C g.1 g.0.asked_as in
      let p = some_if ρ (pending d C) (asked d C) (number d C) (waits ρ d C g.1) (omega arith) in
      let w = waits_some ρ (pending d C) (asked d C) (number d C) p.0.0 p.0.1 p.1 (waits ρ d C g.1) in
      let same : p.0.0 ≡ n = omega arith in
      let at = subst (λ z. note_of d z C ≡ Some p.0.1) same (pending_asked ρ d p.0 C g.1 p.1) in
      let is : p.0.1 ≡ r = same_Some _ _ (sym at ∙ g.0.asked_as) in
      let f = funds ρ d C g.1 in
      let all = all_left (pending d C) p.0 (loaded d C) (descending d C) p.1 f.keeps in
      subst (λ (z : List ℕ). empties (request_in z).kind ≡ true → (request_in z).amount ≡ descending d C) is all kind
  refunds (Applied d n v ∷ C) g = λ granted kind.
      let u = funds ρ d C g.1 in
      let covered = u.covered in
      let is : request_of d n C ≡ request_in g.0.note = ap in_note (ruling_asked ρ d n (v, g.0.note) C g.1 g.0.ruled_as) in
      let kind' : empties (request_in g.0.note).kind ≡ true = subst (λ (z : Request). empties z.kind ≡ true) is kind in
      let all : (request_of d n C).amount ≡ descending d C = subst (λ (z : Request). z.amount ≡ descending d C) (sym is) (all_left (pending d C) (n, g.0.note) (loaded d C) (descending d C) g.0.waits u.keeps kind') in
      let add = no_adds v (request_of d n C) kind in
      let take = takes_all v (request_of d n C) granted kind in
      (since_asked ρ d (n, g.0.note) C g.1 g.0.waits kind', rw (eq-eqb d d refl) (omega arith))
  refunds (_ ∷ C) g = tt

  -- == registers and balances ==

  after_applied : (C : List Commit) → Good ρ C → AfterApplied C
  after_applied [] g = tt
  after_applied (Settled d n ∷ C) g = ap is_some g.0.applied_as
  after_applied (_ ∷ C) g = tt

  accounts : (C : List Commit) → Good ρ C → (d : ℕ) → Accounts C d
  accounts C g d = record { one_in_flight = (link ρ d C g).ruled_le; equal = (account ρ d C g).equal }

  deposits_within : (c : ℕ) (C : List Commit) → Good ρ C → deposits c C ≤ 1000000000000000
  deposits_within c [] g = omega arith
  deposits_within c (Deposited e n a ∷ C) g =
      let h = deposits_within c C g.1 in
      either e c (λ t x. let fits = subst (λ y. Fits ρ (Deposited y n a) C) x g.0 in rw t fits.room) (λ t. rw t h)
  deposits_within c (_ ∷ C) g = deposits_within c C g.1

  solvents : (C : List Commit) → Good ρ C → (c : ℕ) → Solvent C c
  solvents C g c = record { balance = solvent ρ c C g; limit = deposits_within c C g }

  -- == acceptances and prints ==

  accepted_once : (P : Ledger) (C : List Commit) → Good ρ C → NewestSure P C → AcceptedOnce P C
  accepted_once P [] g s = tt
  accepted_once P (Accepted d p n ∷ C) g s = (g.0.new, s)
  accepted_once P (_ ∷ C) g s = tt

  below : {a b : ℕ} → a < b → b ≤ a → ⊥
  below h k = omega arith

  held_once : (P : Ledger) (C : List Commit) → Good ρ C → NewestSure P C → HeldOnce P C
  held_once P [] g s = tt
  held_once P (Held j x ∷ C) g s =
      let h = jobs ρ C g.1 in
      let it = h.open_is g.0.at.device j g.0.open_is in (
        (
          it.at,
          it.job_is,
          ⊎_elim
              (λ (t : held_piece it.at.device it.at.piece C ≡ true).
              let le = h.piece_le it.at.device it.at.piece t in
              absurd (below (subst (λ z. Rattle.bench_base.specs.Jobs.top z C < it.at.piece) (sym it.device) it.fresh) le))
              (λ (t : held_piece it.at.device it.at.piece C ≡ false). t)
              (cases_Bool (held_piece it.at.device it.at.piece C)),
        ),
        s,
      )
  held_once P (_ ∷ C) g s = tt

  -- == the nine clauses, and each prefix ==

  lawful_at : (P : Ledger) → Good ρ (counted P) → Told P → LawfulAt ρ P
  lawful_at P g told =
      let C = counted P in
      record {
        numbering = numbering C g;
        debits = (next_debit C g, λ d _ _. totals C g d);
        releases = told.releases;
        refunds = refunds C g;
        registers = (after_applied C g, λ d _ _. accounts C g d);
        balances = λ c _ _. solvents C g c;
        days = days C g;
        acceptances = accepted_once P C g told.sure;
        prints = (told.prints, held_once P C g told.sure);
      }

  -- what follows from good commits and from what is reported holds of each prefix
  always : (Q : Ledger → Type 0) → ((P : Ledger) → Good ρ (counted P) → Told P → Q P) → (H : Ledger) → Good ρ (counted H) → Always Told H → Always Q H
  always Q f [] g t = f [] g t
  always Q f (k ∷ H) g t = (f (k ∷ H) g t.0, always Q f H (good_before ρ k H g) t.1)

  pub everywhere : (Q : Ledger → Type 0) → ((P : Ledger) → Good ρ (counted P) → Told P → Q P) → (H : Ledger) → Inv ρ H → Always Q H
  everywhere Q f H i = always Q f H i.good i.told

  pub lawful : (H : Ledger) → Inv ρ H → Lawful ρ H
  lawful H i = everywhere (LawfulAt ρ) lawful_at H i

  -- == beside the nine clauses ==

  pub has_owner : (C : List Commit) → Good ρ C → HasOwner C
  has_owner [] g = tt
  has_owner (Ruled d n v r ∷ C) g = λ kind. owner ρ d n r C g.1 g.0.asked_as kind
  has_owner (_ ∷ C) g = tt

  pub no_imbalance : (C : List Commit) → Good ρ C → NoImbalance C
  no_imbalance [] g = tt
  no_imbalance (Ruled d n v r ∷ C) g = sane_here ρ d n v r C g
  no_imbalance (_ ∷ C) g = tt

  pub is_fitting : (C : List Commit) → Good ρ C → IsFitting C
  is_fitting [] g = tt
  is_fitting (c ∷ C) g = g.2

  stored_last : (d : ℕ) (x : Verdict × List ℕ) (C : List Commit) → last_ruling d C ≡ Some x → stored_request d C ≡ Some x.1
  stored_last d x [] h = absurd (some_none (sym h))
  stored_last d x (Ruled f n v note ∷ C) h = either f d
      (λ t y. let is : (v, note) ≡ x = same_Some _ _ (rw t at h) in rw t (ap (λ (z : Verdict × List ℕ). Some z.1) is))
      (λ t. rw t (stored_last d x C (rw t at h)))
  stored_last d x (_ ∷ C) h = stored_last d x C h

  pub linked : (C : List Commit) → Good ρ C → (d : ℕ) → Link C d
  linked C g d =
      let l = link ρ d C g in
      record {
        settled_le = l.settled_le;
        number_le = l.number_le;
        ruled_le = l.ruled_le;
        asked_ge = l.asked_ge;
        asked_le = l.asked_le;
        same = λ some _.
            let last = last_some ρ d C some in
            stored_last d last.0 C last.1 ∙ sym (ruling_asked ρ d (ruled d C) last.0 C g (last_is ρ d last.0 C g last.1));
      }
