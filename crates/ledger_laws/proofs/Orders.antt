-- The commits of each node are in its order: what a node's own record needs to be that of the commits.
use Rattle.std.proofs.Common.{◌≡◌, ℕ, pos, ◌+◌, ◌-◌, ◌≤◌, true, List, [], ◌∷◌, Option, Some, None, refl, sym, ap, subst, ◌∙◌, ⊎_elim, true≢false, arith}
use Rattle.std.specs.Prelude.{◌==◌, ◌&&◌, ◌-ℤ◌, is_some}
use Rattle.std.proofs.lemmas.Bool.{eqb-true, and_parts}
use Rattle.std.proofs.lemmas.Int.{ints}
use Rattle.std.proofs.lemmas.Option.{same_Some}
use Rattle.bench_base.specs.declared.{words.JobState.JobState, words.JobState.TheVariants.Ordered as OrderedJob, words.JobState.TheVariants.Held as HeldJob, words.JobState.TheVariants.Closed as ClosedJob, words.Verdict.Verdict, ledger.Commit.Commit, ledger.Commit.TheVariants.Made, ledger.Commit.TheVariants.Asked, ledger.Commit.TheVariants.Applied, ledger.Commit.TheVariants.Debited, ledger.Commit.TheVariants.Registered, ledger.Commit.TheVariants.Opened, ledger.Commit.TheVariants.Deposited, ledger.Commit.TheVariants.Flagged, ledger.Commit.TheVariants.Ruled, ledger.Commit.TheVariants.Settled, ledger.Commit.TheVariants.Ordered, ledger.Commit.TheVariants.Held, ledger.Commit.TheVariants.Began, ledger.Commit.TheVariants.Closed, ledger.Commit.TheVariants.Trusted, ledger.Commit.TheVariants.Accepted}
use Rattle.bench_base.specs.Rules.{Rules}
use Rattle.bench_base.specs.Jobs.{last_job}
use Rattle.bench_base.proofs.Facts.{some_none, either, none_if, found}
use Rattle.host_jobs.specs.Answers.{is_open}
use Rattle.psd_wire.specs.declared.message.Message.TheVariants as m
use Rattle.psd_wire.specs.Grammar.{spell}
use Rattle.ledger_terms.specs.Requests.{request_in}
use Rattle.ledger_terms.specs.Sums.{loaded, refunded, ascending}
use Rattle.ledger_terms.specs.Devices.{key_of, asked, number, applied_of, pending, waiting}
use Rattle.ledger_terms.specs.Centres.{registered}
use Rattle.ledger_terms.specs.InFlight.{ruling_of}
use Rattle.psd_state.specs.Records as device
use Rattle.psd_state.specs.Records.{IsRecordOf, IsOutstanding, state_of as record_of}
use Rattle.centre_ledger.specs.Order as centre
use Rattle.host_jobs.specs.Order as host
use Rattle.host_jobs.specs.Turns as turns
use Rattle.verifier.specs.Order as verifier
use Rattle.ledger_laws.proofs.Good.{Good, Fits}
use Rattle.ledger_laws.proofs.Links.{waits, waits_none, waits_some, applied_le}
use Rattle.ledger_laws.proofs.Money.{funds, ruling_asked}
use Rattle.ledger_laws.proofs.Asked.{pending_asked, note_reads, unless_some}
use Rattle.ledger_laws.proofs.Jobs.{jobs}
use Rattle.ledger_laws.proofs.Cells.{is_in_cells, in_cell, unheld, oldest_closed, has_state}

module _ (ρ : Rules) where
  -- == devices ==

  -- what is pending was asked by a device that has a key
  pending_made : (d : ℕ) (p : ℕ × List ℕ) (C : List Commit) → Good ρ C → pending d C ≡ Some p → (key : List ℕ) × (key_of d C ≡ Some key) × (p.1 ≡ spell (m.Request (request_in p.1)) key)
  pending_made d p [] g h = absurd (some_none (sym h))
  pending_made d p (Made e key ∷ C) g h =
      let was = pending_made d p C g.1 h in
      either e d
      (λ t y. absurd (some_none (sym was.1 ∙ subst (λ z. key_of z C ≡ None) y g.0)))
      (λ t. (was.0, rw t was.1, was.2))
  pending_made d p (Asked e n r ∷ C) g h = either e d
      (λ t y.
      let fits = subst (λ z. Fits ρ (Asked z n r) C) y g.0 in
      let is : (n, r) ≡ p = same_Some _ _ (rw t at h) in
      (fits.made.0, fits.made.1, subst (λ (z : ℕ × List ℕ). z.1 ≡ spell (m.Request (request_in z.1)) fits.made.0) is fits.made.2))
      (λ t. pending_made d p C g.1 (rw t at h))
  pending_made d p (Applied e n v ∷ C) g h = either e d
      (λ t y. pending_made d p C g.1 (unless_some n (pending d C) p (rw t at h)))
      (λ t. pending_made d p C g.1 (rw t at h))
  pending_made d p (_ ∷ C) g h = pending_made d p C g.1 h

  asks_asked : (d : ℕ) (C : List Commit) → Good ρ C → device.asks d C ≡ asked d C
  asks_asked d [] g = refl
  asks_asked d (Asked f n r ∷ C) g = either f d
      (λ t x.
      let fits = subst (λ y. Fits ρ (Asked y n r) C) x g.0 in
      let w = waits_none ρ (pending d C) (asked d C) (number d C) fits.idle (waits ρ d C g.1) in
      let next = fits.next in
      let is = asks_asked d C g.1 in
      rw t (omega arith))
      (λ t. rw t (asks_asked d C g.1))
  asks_asked d (_ ∷ C) g = asks_asked d C g.1

  device_follows : (d : ℕ) (c : Commit) (C : List Commit) → Fits ρ c C → Good ρ C → device.Follows d c C
  device_follows d (Made e key) C f g = λ y. subst (λ z. key_of z C ≡ None) y f
  device_follows d (Asked e n r) C f g = λ y.
      let fits = subst (λ z. Fits ρ (Asked z n r) C) y f in
      let w = waits_none ρ (pending d C) (asked d C) (number d C) fits.idle (waits ρ d C g) in
      let is = asks_asked d C g in
      let next = fits.next in
      (ap is_some fits.made.1, omega arith)
  device_follows d (Applied e n v) C f g = λ y.
      let fits = subst (λ z. Fits ρ (Applied z n v) C) y f in
      let w = waits_some ρ (pending d C) (asked d C) (number d C) n fits.note fits.waits (waits ρ d C g) in
      let made = pending_made d (n, fits.note) C g fits.waits in (
        ap is_some made.1,
        w.0,
        none_if (applied_of d n C) (λ x o. let le = applied_le ρ d n x C g o in omega arith),
        record { note = fits.note; ruling = fits.ruled_as; request = ruling_asked ρ d n (v, fits.note) C g fits.ruled_as },
      )
  device_follows d (Debited e p a k t v) C f g = λ y. let fits = subst (λ z. Fits ρ (Debited z p a k t v) C) y f in ap is_some fits.made.1
  device_follows d (Registered e o key) C f g = λ y. subst (λ z. registered z C ≡ None) y f
  device_follows d (Ruled e n v r) C f g = λ y.
      let fits = subst (λ z. Fits ρ (Ruled z n v r) C) y f in
      let next = fits.next in
      (ap is_some fits.known.1, omega arith, fits.verdict)
  device_follows d _ C f g = tt

  pub device_order : (C : List Commit) → Good ρ C → (d : ℕ) → device.InOrder d C
  device_order [] g d = tt
  device_order (c ∷ C) g d = (device_follows d c C g.0 g.1, device_order C g.1 d)

  outstanding : (d : ℕ) (key : List ℕ) (C : List Commit) → Good ρ C → key_of d C ≡ Some key → (w : Option (ℕ × List ℕ)) → pending d C ≡ w → IsOutstanding key (waiting w) w
  outstanding d key C g has None at = refl
  outstanding d key C g has (Some p) at =
      let made = pending_made d p C g at in
      let it = note_reads ρ d p.0 p.1 C g (pending_asked ρ d p C g at) in
      let same : made.0 ≡ key = same_Some _ _ (sym made.1 ∙ has) in
      let text : p.1 ≡ spell (m.Request (request_in p.1)) key = subst (λ z. p.1 ≡ spell (m.Request (request_in p.1)) z) same made.2 in
      λ i. Some (sym it.number i, text i)

  whole : (loads spent cleared : ℕ) → spent + cleared ≤ loads → pos (loads - (spent + cleared)) ≡ pos loads -ℤ pos spent -ℤ pos cleared
  whole loads spent cleared h = omega (arith, ints)

  -- a device that was made has the record that follows from the commits
  pub device_record : (C : List Commit) → Good ρ C → (d : ℕ) (key : List ℕ) → key_of d C ≡ Some key → IsRecordOf (record_of d key C) d C
  device_record C g d key has = record {
    made = has;
    state = refl;
    descending = whole (loaded d C) (ascending d C) (refunded d C) (funds ρ d C g).covered;
    outstanding = outstanding d key C g has (pending d C) refl;
  }

  -- == the centre ==

  ruled_registered : (d n : ℕ) (x : Verdict × List ℕ) (C : List Commit) → Good ρ C → ruling_of d n C ≡ Some x → (o : ℕ × List ℕ) × (registered d C ≡ Some o)
  ruled_registered d n x [] g h = absurd (some_none (sym h))
  ruled_registered d n x (Ruled f k v r ∷ C) g h = ⊎_elim
      (λ (t : (((f == d) && (k == n)) ≡ true) × ((v, r) ≡ x)).
      let p = and_parts (f == d) (k == n) t.0 in
      let fits = subst (λ z. Fits ρ (Ruled z k v r) C) (eqb-true f d p.0) g.0 in
      fits.known)
      (λ (o : ruling_of d n C ≡ Some x). ruled_registered d n x C g.1 o)
      (found ((f == d) && (k == n)) (ruling_of d n C) (v, r) x h)
  ruled_registered d n x (Registered f o key ∷ C) g h =
      let was = ruled_registered d n x C g.1 h in
      either f d
      (λ t y. absurd (some_none (sym was.1 ∙ subst (λ z. registered z C ≡ None) y g.0)))
      (λ t. (was.0, rw t was.1))
  ruled_registered d n x (_ ∷ C) g h = ruled_registered d n x C g.1 h

  applied_ruled : (d n : ℕ) (v : Verdict) (C : List Commit) → Good ρ C → applied_of d n C ≡ Some v → (x : Verdict × List ℕ) × (ruling_of d n C ≡ Some x)
  applied_ruled d n v [] g h = absurd (some_none (sym h))
  applied_ruled d n v (Applied f k w ∷ C) g h = ⊎_elim
      (λ (t : (((f == d) && (k == n)) ≡ true) × (w ≡ v)).
      let p = and_parts (f == d) (k == n) t.0 in
      let fits = subst (λ z. Fits ρ (Applied z k w) C) (eqb-true f d p.0) g.0 in
      ((w, fits.note), subst (λ z. ruling_of d z C ≡ Some (w, fits.note)) (eqb-true k n p.1) fits.ruled_as))
      (λ (o : applied_of d n C ≡ Some v). applied_ruled d n v C g.1 o)
      (found ((f == d) && (k == n)) (applied_of d n C) w v h)
  applied_ruled d n v (Ruled f k w r ∷ C) g h = let it = applied_ruled d n v C g.1 h in (it.0, Rattle.ledger_laws.proofs.Kept.ruling_kept d n it.0 (Ruled f k w r) C it.1)
  applied_ruled d n v (_ ∷ C) g h = applied_ruled d n v C g.1 h

  centre_follows : (c : Commit) (C : List Commit) → Fits ρ c C → Good ρ C → centre.Follows c C
  centre_follows (Registered d o key) C f g = f
  centre_follows (Opened w) C f g = f
  centre_follows (Deposited w n a) C f g = (f.known, f.room)
  centre_follows (Flagged w s) C f g = f
  centre_follows (Ruled d n v r) C f g = let next = f.next in (ap is_some f.known.1, omega arith, f.verdict)
  centre_follows (Settled d n) C f g =
      let x = applied_ruled d n f.v C g f.applied_as in
      ap is_some (ruled_registered d n x.0 C g x.1).1
  centre_follows _ C f g = tt

  pub centre_order : (C : List Commit) → Good ρ C → centre.InOrder C
  centre_order [] g = tt
  centre_order (c ∷ C) g = (centre_follows c C g.0 g.1, centre_order C g.1)

  -- == the host and the verifier ==

  host_follows : (c : Commit) (C : List Commit) → Fits ρ c C → Good ρ C → host.Follows c C
  host_follows (Ordered j d p a k) C f g =
      (f.next, λ le. let s = has_state ρ (last_job C - 1023) C g (omega arith) (omega arith) in s.1 ∙ ap (λ (z : JobState). Some z) (oldest_closed ρ C g f.room le s.0 s.1))
  host_follows (Held j x) C f g =
      let it = (jobs ρ C g).open_is f.at.device j f.open_is in
      (is_in_cells j C (in_cell ρ j OrderedJob C g it.state ordered_closed), unheld ρ j C g it.state, f.at, f.job_is, f.mark)
    where
      ordered_closed : OrderedJob ≡ ClosedJob → ⊥
      ordered_closed e = cc
  host_follows (Began j) C f g = is_in_cells j C (in_cell ρ j HeldJob C g f held_closed)
    where
      held_closed : HeldJob ≡ ClosedJob → ⊥
      held_closed e = cc
  host_follows (Closed j) C f g = is_in_cells j C (in_cell ρ j f.0 C g f.1 (λ e. true≢false (sym f.2 ∙ ap (λ (z : JobState). is_open (Some z)) e)))
  host_follows _ C f g = tt

  pub host_order : (C : List Commit) → Good ρ C → host.InOrder C
  host_order [] g = tt
  host_order (c ∷ C) g = (host_follows c C g.0 g.1, host_order C g.1)

  -- what the refusals of the host's calls leave is what fits
  turn_follows : (c : Commit) (C : List Commit) → Fits ρ c C → Good ρ C → turns.Follows c C
  turn_follows (Ordered j d p a k) C f g = record { next = f.next; idle = f.idle; fresh = f.fresh; room = (host_follows (Ordered j d p a k) C f g).1 }
  turn_follows (Held j x) C f g = record { at = f.at; job_is = f.job_is; open_is = f.open_is; mark = f.mark }
  turn_follows (Began j) C f g = f
  turn_follows (Closed j) C f g = ap is_open f.1 ∙ f.2
  turn_follows _ C f g = tt

  pub host_turn : (C : List Commit) → Good ρ C → turns.InTurn C
  host_turn [] g = tt
  host_turn (c ∷ C) g = (turn_follows c C g.0 g.1, host_turn C g.1)

  verifier_follows : (c : Commit) (C : List Commit) → Fits ρ c C → verifier.Follows c C
  verifier_follows (Trusted d key) C f = f
  verifier_follows (Accepted d p s) C f = (ap is_some f.known.1, f.new)
  verifier_follows _ C f = tt

  pub verifier_order : (C : List Commit) → Good ρ C → verifier.InOrder C
  verifier_order [] g = tt
  verifier_order (c ∷ C) g = (verifier_follows c C g.0, verifier_order C g.1)
