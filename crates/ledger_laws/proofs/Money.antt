-- What a device holds, against what the centre ruled. Each ruling is applied, or the last one isn't yet: so what was loaded
-- and cleared are the sums of all rulings, or of all but the last. Nothing is cut off: what was spent and cleared was loaded,
-- since a debit takes no more than is left, nothing is debited while a refund waits, and a refund takes what is left.

use Rattle.std.proofs.Common.{◌≡◌, ℕ, ◌+◌, ◌-◌, ◌<◌, ◌≤◌, true, false, List, [], ◌∷◌, Option, Some, None, leb, ◌⊎◌, inl, inr, ⊎_elim, refl, sym, ap, subst, ◌∙◌, true≢false, arith}
use Rattle.std.specs.Prelude.{◌==◌, ◌&&◌, max}
use Rattle.std.proofs.lemmas.Bool.{eqb-true, cases_lt, eq-eqb, and_parts, lt-leb}
use Rattle.std.proofs.lemmas.Option.{same_Some}
use Rattle.bench_base.specs.declared.{words.Verdict.Verdict, words.Verdict.TheVariants.Granted, ledger.Commit.Commit, ledger.Commit.TheVariants.Asked, ledger.Commit.TheVariants.Applied, ledger.Commit.TheVariants.Debited, ledger.Commit.TheVariants.Ruled}
use Rattle.bench_base.specs.Rules.{Rules}
use Rattle.bench_base.specs.Kinds.{empties, is_granted}
use Rattle.bench_base.proofs.Facts.{either, first_of_none, first_of_some, found, when}
use Rattle.psd_wire.specs.declared.message.Request.{Request}
use Rattle.ledger_terms.specs.Requests.{request_in, note_of, in_note, request_of}
use Rattle.ledger_terms.specs.Sums.{adds, takes, applied_sum, ruled_sum, loaded, refunded, bought, returned, ascending, descending}
use Rattle.ledger_terms.specs.Devices.{asked, number, applied_of, pending, unless_applied, frozen}
use Rattle.ledger_terms.specs.Centres.{ruled, settled}
use Rattle.ledger_terms.specs.InFlight.{ruling_of, ruled_sum_to, acknowledged_resets, acknowledged_refunds, in_flight, flight_of, flight}
use Rattle.ledger_terms.specs.Rulings.{reply_to, ruled_reply}
use Rattle.centre_ledger.specs.Records.{last_ruling}
use Rattle.centre_ledger.proofs.Standings.{sum_to_all}
use Rattle.ledger_laws.proofs.Good.{Good, Fits}
use Rattle.ledger_laws.proofs.Kept.{note_kept}
use Rattle.ledger_laws.proofs.Links.{link, waits, waits_some, ruling_le, ruled_reply_le, note_le, applied_le}

module _ (ρ : Rules) where
  -- the Request of a ruling is the one that was asked
  pub ruling_asked : (d n : ℕ) (x : Verdict × List ℕ) (C : List Commit) → Good ρ C → ruling_of d n C ≡ Some x → note_of d n C ≡ Some x.1
  ruling_asked d n x [] g e = cc
  ruling_asked d n x (Ruled f m v r ∷ C) g e = ⊎_elim
      (λ (t : (((f == d) && (m == n)) ≡ true) × ((v, r) ≡ x)).
      let p = and_parts (f == d) (m == n) t.0 in
      let fits = subst (λ z. Fits ρ (Ruled z m v r) C) (eqb-true f d p.0) g.0 in
      let at = subst (λ z. note_of d z C ≡ Some r) (eqb-true m n p.1) fits.asked_as in
      at ∙ ap (λ (y : Verdict × List ℕ). Some y.1) t.1)
      (λ (o : ruling_of d n C ≡ Some x). ruling_asked d n x C g.1 o)
      (found ((f == d) && (m == n)) (ruling_of d n C) (v, r) x e)
  ruling_asked d n x (Asked f m r ∷ C) g e = note_kept d n x.1 (Asked f m r) C (ruling_asked d n x C g.1 e)
  ruling_asked d n x (_ ∷ C) g e = ruling_asked d n x C g.1 e

  -- == the last ruling ==

  pub added : (d f m : ℕ) (v : Verdict) (r : List ℕ) (C : List Commit) → (f == d) ≡ true → ruled d C < m → ruling_of d m (Ruled f m v r ∷ C) ≡ Some (v, r)
  added d f m v r C t h = rw (t, eq-eqb m m refl) (first_of_none (ruling_of d m C) (Some (v, r)) (λ x o. let le = ruling_le ρ d m x C o in omega arith))

  -- so its Reply is the one of that number from then on
  pub reply_added : (d f m : ℕ) (v : Verdict) (r : List ℕ) (C : List Commit) → (f == d) ≡ true → ruled d C < m → ruled_reply d m (Ruled f m v r ∷ C) ≡ Some (reply_to C (request_in r))
  reply_added d f m v r C t h = rw (t, eq-eqb m m refl) (first_of_none (ruled_reply d m C) (Some (reply_to C (request_in r))) (λ p o. let le = ruled_reply_le ρ d m p C o in omega arith))

  ruled_added : (d f m : ℕ) (v : Verdict) (r : List ℕ) (C : List Commit) → (f == d) ≡ true → ruled d C < m → ruled d (Ruled f m v r ∷ C) ≡ m
  ruled_added d f m v r C t h = rw t (omega arith)

  ruled_other : (d f m : ℕ) (v : Verdict) (r : List ℕ) (C : List Commit) → (f == d) ≡ false → ruled d (Ruled f m v r ∷ C) ≡ ruled d C
  ruled_other d f m v r C t = rw t refl

  pub last_is : (d : ℕ) (x : Verdict × List ℕ) (C : List Commit) → Good ρ C → last_ruling d C ≡ Some x → ruling_of d (ruled d C) C ≡ Some x
  last_is d x [] g e = cc
  last_is d x (Ruled f m v r ∷ C) g e = either f d
      (λ t y.
      let fits = subst (λ z. Fits ρ (Ruled z m v r) C) y g.0 in
      let next = fits.next in
      let above : ruled d C < m = omega arith in
      subst (λ z. ruling_of d z (Ruled f m v r ∷ C) ≡ Some (v, r)) (sym (ruled_added d f m v r C t above)) (added d f m v r C t above) ∙ (rw t at e))
      (λ t. subst (λ z. ruling_of d z (Ruled f m v r ∷ C) ≡ Some x) (sym (ruled_other d f m v r C t)) (rw t (last_is d x C g.1 (rw t at e))))
  last_is d x (_ ∷ C) g e = last_is d x C g.1 e

  pub record Balanced (loaded cleared bought returned now most : ℕ) (last : Option (Verdict × List ℕ)) : Type 0 where
    -- each ruling is applied
    pub even : now ≡ most → (loaded ≡ bought) × (cleared ≡ returned)
    -- the last one isn't
    pub odd : most ≡ now + 1 → (x : Verdict × List ℕ) × (last ≡ Some x) × (loaded + adds x.0 (request_in x.1) ≡ bought) × (cleared + takes x.0 (request_in x.1) ≡ returned)

  abbrev pub Balance : ℕ → List Commit → Type 0
  Balance d C = Balanced (loaded d C) (refunded d C) (bought d C) (returned d C) (number d C) (ruled d C) (last_ruling d C)

  pub balance : (d : ℕ) (C : List Commit) → Good ρ C → Balance d C
  balance d [] g = record { even = λ _. (refl, refl); odd = λ h. absurd (omega arith) }
  balance d (Applied e n v ∷ C) g =
      let h = balance d C g.1 in
      let l = link ρ d C g.1 in
      either e d
      (λ t y.
      let fits = subst (λ z. Fits ρ (Applied z n v) C) y g.0 in
      let w = waits_some ρ (pending d C) (asked d C) (number d C) n fits.note fits.waits (waits ρ d C g.1) in
      let le : n ≤ ruled d C = ruling_le ρ d n (v, fits.note) C fits.ruled_as in
      let most : ruled d C ≡ number d C + 1 = omega arith in
      let same : ruled d C ≡ n = omega arith in
      let o = h.odd most in
      let is = subst (λ z. ruling_of d z C ≡ Some o.0) same (last_is d o.0 C g.1 o.1) in
      let which : (v, fits.note) ≡ o.0 = same_Some _ _ (sym fits.ruled_as ∙ is) in
      let asked : request_of d n C ≡ request_in fits.note = ap in_note (ruling_asked d n (v, fits.note) C g.1 fits.ruled_as) in
      let add : adds v (request_of d n C) ≡ adds o.0.0 (request_in o.0.1) = ap (adds v) asked ∙ ap (λ (z : Verdict × List ℕ). adds z.0 (request_in z.1)) which in
      let take : takes v (request_of d n C) ≡ takes o.0.0 (request_in o.0.1) = ap (takes v) asked ∙ ap (λ (z : Verdict × List ℕ). takes z.0 (request_in z.1)) which in
      rw t (record {
        even = λ _. (ap (λ z. loaded d C + z) add ∙ o.2, ap (λ z. refunded d C + z) take ∙ o.3);
        odd = λ k. absurd (omega arith);
      }))
      (λ t. rw t h)
  balance d (Ruled e n v r ∷ C) g =
      let h = balance d C g.1 in
      let l = link ρ d C g.1 in
      either e d
      (λ t y.
      let fits = subst (λ z. Fits ρ (Ruled z n v r) C) y g.0 in
      let next = fits.next in
      let le = note_le ρ d n r C g.1 fits.asked_as in
      let ev = h.even (omega arith) in
      rw t (record {
        even = λ k. absurd (omega arith);
        odd = λ _. ((v, r), refl, ap (λ z. z + adds v (request_in r)) ev.0, ap (λ z. z + takes v (request_in r)) ev.1);
      }))
      (λ t. rw t h)
  balance d (_ ∷ C) g = balance d C g.1

  -- == acknowledged, and in flight ==

  sum_to_last : (f : Verdict → Request → ℕ) (d s : ℕ) (x : Verdict × List ℕ) (C : List Commit) → Good ρ C → last_ruling d C ≡ Some x → ruled d C ≡ s + 1 → ruled_sum_to f d s C + f x.0 (request_in x.1) ≡ ruled_sum f d C
  sum_to_last f d s x [] g e h = cc
  sum_to_last f d s x (Ruled m n v r ∷ C) g e h = either m d
      (λ t y.
      let fits = subst (λ z. Fits ρ (Ruled z n v r) C) y g.0 in
      let next = fits.next in
      let h' : max n (ruled d C) ≡ s + 1 = rw t at h in
      let le : leb n s ≡ false = lt-leb n s (omega arith) in
      let is : (v, r) ≡ x = same_Some _ _ (rw t at e) in
      rw (t, le) (ap (λ z. z + f x.0 (request_in x.1)) (sum_to_all f d s C (omega arith)) ∙ ap (λ (z : Verdict × List ℕ). ruled_sum f d C + f z.0 (request_in z.1)) (sym is)))
      (λ t. let h' : ruled d C ≡ s + 1 = rw t at h in let e' : last_ruling d C ≡ Some x = rw t at e in rw t (sum_to_last f d s x C g.1 e' h'))
  sum_to_last f d s x (_ ∷ C) g e h = sum_to_last f d s x C g.1 e h

  pub last_some : (d : ℕ) (C : List Commit) → 0 < ruled d C → (x : Verdict × List ℕ) × (last_ruling d C ≡ Some x)
  last_some d [] h = absurd (omega arith)
  last_some d (Ruled e n v r ∷ C) h = either e d
      (λ t y. ((v, r), rw t refl))
      (λ t. rw t (last_some d C (rw t at h)))
  last_some d (_ ∷ C) h = last_some d C h

  -- the number is a variable with an equation: a look-up at a number that follows from the list doesn't compute
  pub applied_some : (d n : ℕ) (C : List Commit) → number d C ≡ n → 0 < n → (v : Verdict) × (applied_of d n C ≡ Some v)
  applied_some d n [] e h = absurd (omega arith)
  applied_some d n (Applied k m v ∷ C) e h = either k d
      (λ t y. let same : m ≡ n = rw t at e in rw (t, eq-eqb m n same) (first_of_some (applied_of d n C) v))
      (λ t. let e' : number d C ≡ n = rw t at e in rw t (applied_some d n C e' h))
  applied_some d n (_ ∷ C) e h = applied_some d n C e h

  flight_none : (f : Verdict → Request → ℕ) (a : Option Verdict) (o : Option (Verdict × List ℕ)) → ((v : Verdict) → a ≡ Some v → ⊥) → flight_of f a o ≡ 0
  flight_none f None o h = refl
  flight_none f (Some v) o h = absurd (h v refl)

  flight_some : (f : Verdict → Request → ℕ) (a : Option Verdict) (o : Option (Verdict × List ℕ)) (v : Verdict) (x : Verdict × List ℕ) → a ≡ Some v → o ≡ Some x → flight_of f a o ≡ f x.0 (request_in x.1)
  flight_some f a o v x e h = rw (e, h) refl

  -- where nothing is cut off: what was loaded, against what is acknowledged and what is in flight
  pub settled_account : (f : Verdict → Request → ℕ) (d : ℕ) (C : List Commit) → Good ρ C → (number d C ≡ ruled d C → applied_sum f d C ≡ ruled_sum f d C) → (ruled d C ≡ number d C + 1 → (x : Verdict × List ℕ) → last_ruling d C ≡ Some x → applied_sum f d C + f x.0 (request_in x.1) ≡ ruled_sum f d C) → applied_sum f d C ≡ ruled_sum_to f d (settled d C) C + flight f d C
  settled_account f d C g even odd =
      let l = link ρ d C g in
      ⊎_elim
      (λ (h : settled d C < ruled d C).
      let most : ruled d C ≡ settled d C + 1 = omega arith in
      let x = last_some d C (omega arith) in
      let to : ruled_sum_to f d (settled d C) C + f x.0.0 (request_in x.0.1) ≡ ruled_sum f d C = sum_to_last f d (settled d C) x.0 C g x.1 most in
      ⊎_elim
      (λ (k : number d C < ruled d C).
      let is : applied_sum f d C + f x.0.0 (request_in x.0.1) ≡ ruled_sum f d C = odd (omega arith) x.0 x.1 in
      let none : flight f d C ≡ 0 = flight_none f (applied_of d (settled d C + 1) C) (in_flight d C) (λ v e. let le = applied_le ρ d (settled d C + 1) v C g e in omega arith) in
      omega arith)
      (λ (k : ruled d C ≤ number d C).
      let is : applied_sum f d C ≡ ruled_sum f d C = even (omega arith) in
      let a = applied_some d (settled d C + 1) C (omega arith) (omega arith) in
      let r = subst (λ z. ruling_of d z C ≡ Some x.0) most (last_is d x.0 C g x.1) in
      let some : flight f d C ≡ f x.0.0 (request_in x.0.1) = flight_some f (applied_of d (settled d C + 1) C) (in_flight d C) a.0 x.0 a.1 r in
      omega arith)
      (cases_lt (number d C) (ruled d C)))
      (λ (h : ruled d C ≤ settled d C).
      let is : applied_sum f d C ≡ ruled_sum f d C = even (omega arith) in
      let to : ruled_sum_to f d (settled d C) C ≡ ruled_sum f d C = sum_to_all f d (settled d C) C h in
      let none : flight f d C ≡ 0 = flight_none f (applied_of d (settled d C + 1) C) (in_flight d C) (λ v e. let le = applied_le ρ d (settled d C + 1) v C g e in omega arith) in
      omega arith)
      (cases_lt (settled d C) (ruled d C))

  -- == no sum is cut off ==

  abbrev pub Keeps : Option (ℕ × List ℕ) → ℕ → ℕ → Type 0
  Keeps None loaded left = Unit {0}
  Keeps (Some p) loaded left = (empties (request_in p.1).kind ≡ true → (request_in p.1).amount ≡ left) × (loaded + adds Granted (request_in p.1) ≤ ρ.total)

  pub record Funds (used cleared loaded left : ℕ) (waiting : Option (ℕ × List ℕ)) : Type 0 where
    pub covered : used + cleared ≤ loaded
    pub within : loaded ≤ ρ.total
    pub keeps : Keeps waiting loaded left

  abbrev pub Fund : ℕ → List Commit → Type 0
  Fund d C = Funds (ascending d C) (refunded d C) (loaded d C) (descending d C) (pending d C)

  adds_le : (v : Verdict) (q : Request) → adds v q ≤ adds Granted q
  unfolding adds
  adds_le Granted q = omega arith
  adds_le _ q = omega arith

  takes_is : (v : Verdict) (q : Request) → (takes v q ≡ 0) ⊎ ((empties q.kind ≡ true) × (takes v q ≡ q.amount))
  unfolding takes
  takes_is v q = ⊎_elim
      (λ (h : takes v q ≡ 0). inl h)
      (λ (h : ((is_granted v && empties q.kind) ≡ true) × (takes v q ≡ q.amount)). inr ((and_parts (is_granted v) (empties q.kind) h.0).1, h.1))
      (when (is_granted v && empties q.kind) q.amount)

  funds_applied : (n : ℕ) (v : Verdict) (note : List ℕ) (w : Option (ℕ × List ℕ)) (used cleared loaded then_left : ℕ) (q : Request) → w ≡ Some (n, note) → q ≡ request_in note → Funds used cleared loaded (loaded - (used + cleared)) w → Funds used (cleared + takes v q) (loaded + adds v q) then_left (unless_applied n w)
  funds_applied n v note None used cleared loaded l q e s h = cc
  funds_applied n v note (Some p) used cleared loaded l q e s h =
      let number : p.0 ≡ n = ap (λ (z : ℕ × List ℕ). z.0) (same_Some _ _ e) in
      let is : request_in p.1 ≡ q = ap (λ (z : ℕ × List ℕ). request_in z.1) (same_Some _ _ e) ∙ sym s in
      let keeps : Keeps (Some p) loaded (loaded - (used + cleared)) = h.keeps in
      let at : (empties q.kind ≡ true → q.amount ≡ loaded - (used + cleared)) × (loaded + adds Granted q ≤ ρ.total) = subst (λ (z : Request). (empties z.kind ≡ true → z.amount ≡ loaded - (used + cleared)) × (loaded + adds Granted z ≤ ρ.total)) is keeps in
      let covered = h.covered in
      let le = adds_le v q in
      let top = at.1 in
      rw (eq-eqb p.0 n number) (record {
        covered = ⊎_elim (λ (k : takes v q ≡ 0). omega arith) (λ (k : (empties q.kind ≡ true) × (takes v q ≡ q.amount)). let all = at.0 k.0 in let same = k.1 in omega arith) (takes_is v q);
        within = omega arith;
        keeps = tt;
      })

  keeps_debited : (w : Option (ℕ × List ℕ)) (loaded left then_left : ℕ) → frozen w ≡ false → Keeps w loaded left → Keeps w loaded then_left
  keeps_debited None loaded left l e h = tt
  keeps_debited (Some p) loaded left l e h = ((λ k. absurd (true≢false (sym k ∙ e))), h.1)

  pub funds : (d : ℕ) (C : List Commit) → Good ρ C → Fund d C
  funds d [] g = record { covered = omega arith; within = omega arith; keeps = tt }
  funds d (Asked e n r ∷ C) g =
      let h = funds d C g.1 in
      either e d
      (λ t y.
      let fits = subst (λ z. Fits ρ (Asked z n r) C) y g.0 in
      rw t (record { covered = h.covered; within = h.within; keeps = (fits.all, fits.within) }))
      (λ t. rw t h)
  funds d (Applied e n v ∷ C) g =
      let h = funds d C g.1 in
      either e d
      (λ t y.
      let fits = subst (λ z. Fits ρ (Applied z n v) C) y g.0 in
      let asked : request_of d n C ≡ request_in fits.note = ap in_note (ruling_asked d n (v, fits.note) C g.1 fits.ruled_as) in
      rw t (funds_applied n v fits.note (pending d C) (ascending d C) (refunded d C) (loaded d C) ((loaded d C + adds v (request_of d n C)) - (ascending d C + (refunded d C + takes v (request_of d n C)))) (request_of d n C) fits.waits asked h))
      (λ t. rw t h)
  funds d (Debited e p a k u v ∷ C) g =
      let h = funds d C g.1 in
      either e d
      (λ t y.
      let fits = subst (λ z. Fits ρ (Debited z p a k u v) C) y g.0 in
      let funded = fits.funded in
      let covered = h.covered in
      rw t (record { covered = omega arith; within = h.within; keeps = keeps_debited (pending d C) (loaded d C) (descending d C) (loaded d C - ((ascending d C + a) + refunded d C)) fits.free h.keeps }))
      (λ t. rw t h)
  funds d (_ ∷ C) g = funds d C g.1

  -- what was loaded is what is acknowledged and what is in flight and applied; the same of what was cleared
  pub loads_account : (d : ℕ) (C : List Commit) → Good ρ C → loaded d C ≡ acknowledged_resets d C + flight adds d C
  loads_account d C g =
      let b = balance d C g in
      settled_account adds d C g (λ e. (b.even e).0) (λ e x h. let o = b.odd e in subst (λ (z : Verdict × List ℕ). loaded d C + adds z.0 (request_in z.1) ≡ bought d C) (same_Some _ _ (sym o.1 ∙ h)) o.2)

  pub clears_account : (d : ℕ) (C : List Commit) → Good ρ C → refunded d C ≡ acknowledged_refunds d C + flight takes d C
  clears_account d C g =
      let b = balance d C g in
      settled_account takes d C g (λ e. (b.even e).1) (λ e x h. let o = b.odd e in subst (λ (z : Verdict × List ℕ). refunded d C + takes z.0 (request_in z.1) ≡ returned d C) (same_Some _ _ (sym o.1 ∙ h)) o.3)

  -- the ruling in flight is the last one, where it is applied
  pub flight_last : (f : Verdict → Request → ℕ) (d : ℕ) (C : List Commit) → Good ρ C → settled d C < number d C → (x : Verdict × List ℕ) → last_ruling d C ≡ Some x → flight f d C ≡ f x.0 (request_in x.1)
  flight_last f d C g h x last =
      let l = link ρ d C g in
      let most : ruled d C ≡ settled d C + 1 = omega arith in
      let a = applied_some d (settled d C + 1) C (omega arith) (omega arith) in
      let r = subst (λ z. ruling_of d z C ≡ Some x) most (last_is d x C g last) in
      flight_some f (applied_of d (settled d C + 1) C) (in_flight d C) a.0 x a.1 r

  -- and nothing is, where no applied number is above the settled one
  pub flight_before : (f : Verdict → Request → ℕ) (d : ℕ) (C : List Commit) → Good ρ C → number d C ≤ settled d C → flight f d C ≡ 0
  flight_before f d C g h = flight_none f (applied_of d (settled d C + 1) C) (in_flight d C) (λ v e. let le = applied_le ρ d (settled d C + 1) v C g e in omega arith)

  -- ascending and descending are the acknowledged resets less the acknowledged refunds, except for the one in flight
  pub record Account (ascending descending resets refunds adds takes : ℕ) : Type 0 where
    pub equal : ascending + descending + (refunds + takes) ≡ resets + adds

  pub account : (d : ℕ) (C : List Commit) → Good ρ C → Account (ascending d C) (descending d C) (acknowledged_resets d C) (acknowledged_refunds d C) (flight adds d C) (flight takes d C)
  account d C g =
      let f = funds d C g in
      let covered = f.covered in
      let l = loads_account d C g in
      let c = clears_account d C g in
      record { equal = omega arith }
