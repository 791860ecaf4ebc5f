-- How far a device and the centre may be apart, over every good list. A device waits for at most one number, the one after
-- its last; the centre rules on a number only after the device asked for it, and settles it once the device applied it. So
-- the link stands after each commit of either of them, whatever the other one does meanwhile.
use Rattle.std.proofs.Common.{◌≡◌, ℕ, ◌+◌, ◌≤◌, true, List, [], ◌∷◌, Option, Some, None, ⊎_elim, refl, sym, subst, ◌∙◌, arith}
use Rattle.std.specs.Prelude.{◌==◌, ◌&&◌}
use Rattle.std.proofs.lemmas.Bool.{eqb-true, eq-eqb, and_parts}
use Rattle.bench_base.specs.declared.{words.Verdict.Verdict, ledger.Commit.Commit, ledger.Commit.TheVariants.Asked, ledger.Commit.TheVariants.Applied, ledger.Commit.TheVariants.Ruled, ledger.Commit.TheVariants.Settled}
use Rattle.bench_base.specs.Rules.{Rules}
use Rattle.bench_base.proofs.Facts.{either, found}
use Rattle.psd_wire.specs.declared.message.ReplyMsg.{ReplyMsg}
use Rattle.ledger_terms.specs.Requests.{request_in, note_of}
use Rattle.ledger_terms.specs.Devices.{asked, number, pending, unless_applied, applied_of}
use Rattle.ledger_terms.specs.Centres.{ruled, settled}
use Rattle.ledger_terms.specs.InFlight.{ruling_of}
use Rattle.ledger_terms.specs.Rulings.{reply_to, ruled_reply}
use Rattle.ledger_laws.proofs.Good.{Good, Fits}

module _ (ρ : Rules) where
  -- == what is pending ==

  abbrev pub Waits : Option (ℕ × List ℕ) → ℕ → ℕ → Type 0
  Waits None asked number = asked ≡ number
  Waits (Some p) asked number = (p.0 ≡ asked) × (asked ≡ number + 1)

  waits_applied : (n : ℕ) (note : List ℕ) (w : Option (ℕ × List ℕ)) (asked number : ℕ) → w ≡ Some (n, note) → Waits w asked number → Waits (unless_applied n w) asked n
  waits_applied n note None a k e h = cc
  waits_applied n note (Some p) a k e h =
      let same : p.0 ≡ n = cc in
      rw (eq-eqb p.0 n same) (sym h.0 ∙ same)

  pub waits : (d : ℕ) (C : List Commit) → Good ρ C → Waits (pending d C) (asked d C) (number d C)
  waits d [] g = refl
  waits d (Asked e n r ∷ C) g = either e d
      (λ h x. let f = subst (λ y. Fits ρ (Asked y n r) C) x g.0 in rw h (refl, f.next))
      (λ h. rw h (waits d C g.1))
  waits d (Applied e n v ∷ C) g = either e d
      (λ h x. let f = subst (λ y. Fits ρ (Applied y n v) C) x g.0 in rw h (waits_applied n f.note (pending d C) (asked d C) (number d C) f.waits (waits d C g.1)))
      (λ h. rw h (waits d C g.1))
  waits d (_ ∷ C) g = waits d C g.1

  -- == numbers that are there ==

  pub ruling_le : (d n : ℕ) (x : Verdict × List ℕ) (C : List Commit) → ruling_of d n C ≡ Some x → n ≤ ruled d C
  ruling_le d n x [] e = cc
  ruling_le d n x (Ruled f m v r ∷ C) e = ⊎_elim
      (λ (t : (((f == d) && (m == n)) ≡ true) × ((v, r) ≡ x)).
      let p = and_parts (f == d) (m == n) t.0 in
      let same = eqb-true m n p.1 in
      rw p.0 (omega arith))
      (λ (o : ruling_of d n C ≡ Some x).
      let h = ruling_le d n x C o in
      either f d (λ t y. rw t (omega arith)) (λ t. rw t h))
      (found ((f == d) && (m == n)) (ruling_of d n C) (v, r) x e)
  ruling_le d n x (_ ∷ C) e = ruling_le d n x C e

  pub ruled_reply_le : (d n : ℕ) (p : ReplyMsg) (C : List Commit) → ruled_reply d n C ≡ Some p → n ≤ ruled d C
  ruled_reply_le d n p [] e = cc
  ruled_reply_le d n p (Ruled f m v r ∷ C) e = ⊎_elim
      (λ (t : (((f == d) && (m == n)) ≡ true) × (reply_to C (request_in r) ≡ p)).
      let both = and_parts (f == d) (m == n) t.0 in
      let same = eqb-true m n both.1 in
      rw both.0 (omega arith))
      (λ (o : ruled_reply d n C ≡ Some p).
      let h = ruled_reply_le d n p C o in
      either f d (λ t y. rw t (omega arith)) (λ t. rw t h))
      (found ((f == d) && (m == n)) (ruled_reply d n C) (reply_to C (request_in r)) p e)
  ruled_reply_le d n p (_ ∷ C) e = ruled_reply_le d n p C e

  pub waits_some : (w : Option (ℕ × List ℕ)) (a k n : ℕ) (note : List ℕ) → w ≡ Some (n, note) → Waits w a k → (n ≡ a) × (a ≡ k + 1)
  waits_some None a k n note e h = cc
  waits_some (Some p) a k n note e h = let same : p.0 ≡ n = cc in (sym same ∙ h.0, h.1)

  pub waits_none : (w : Option (ℕ × List ℕ)) (a k : ℕ) → w ≡ None → Waits w a k → a ≡ k
  waits_none None a k e h = h
  waits_none (Some p) a k e h = cc

  pub note_le : (d n : ℕ) (x : List ℕ) (C : List Commit) → Good ρ C → note_of d n C ≡ Some x → n ≤ asked d C
  note_le d n x [] g e = cc
  note_le d n x (Asked f m r ∷ C) g e = ⊎_elim
      (λ (t : (((f == d) && (m == n)) ≡ true) × (r ≡ x)).
      let p = and_parts (f == d) (m == n) t.0 in
      let same = eqb-true m n p.1 in
      rw p.0 (omega arith))
      (λ (o : note_of d n C ≡ Some x).
      let h = note_le d n x C g.1 o in
      either f d
      (λ t y.
      let fits = subst (λ z. Fits ρ (Asked z m r) C) y g.0 in
      let w = waits_none (pending d C) (asked d C) (number d C) fits.idle (waits d C g.1) in
      let next = fits.next in
      rw t (omega arith))
      (λ t. rw t h))
      (found ((f == d) && (m == n)) (note_of d n C) r x e)
  note_le d n x (_ ∷ C) g e = note_le d n x C g.1 e

  pub applied_le : (d n : ℕ) (x : Verdict) (C : List Commit) → Good ρ C → applied_of d n C ≡ Some x → n ≤ number d C
  applied_le d n x [] g e = cc
  applied_le d n x (Applied f m v ∷ C) g e = ⊎_elim
      (λ (t : (((f == d) && (m == n)) ≡ true) × (v ≡ x)).
      let p = and_parts (f == d) (m == n) t.0 in
      let same = eqb-true m n p.1 in
      rw p.0 (omega arith))
      (λ (o : applied_of d n C ≡ Some x).
      let h = applied_le d n x C g.1 o in
      either f d
      (λ t y.
      let fits = subst (λ z. Fits ρ (Applied z m v) C) y g.0 in
      let w = waits_some (pending d C) (asked d C) (number d C) m fits.note fits.waits (waits d C g.1) in
      rw t (omega arith))
      (λ t. rw t h))
      (found ((f == d) && (m == n)) (applied_of d n C) v x e)
  applied_le d n x (_ ∷ C) g e = applied_le d n x C g.1 e

  -- == the link ==

  pub record Order (before now ruled asked : ℕ) : Type 0 where
    pub settled_le : before ≤ now
    pub number_le : now ≤ ruled
    pub ruled_le : ruled ≤ before + 1
    pub asked_ge : ruled ≤ asked
    pub asked_le : asked ≤ now + 1

  abbrev pub Between : ℕ → List Commit → Type 0
  Between d C = Order (settled d C) (number d C) (ruled d C) (asked d C)

  pub link : (d : ℕ) (C : List Commit) → Good ρ C → Between d C
  link d [] g = record { settled_le = omega arith; number_le = omega arith; ruled_le = omega arith; asked_ge = omega arith; asked_le = omega arith }
  link d (Asked e n r ∷ C) g =
      let h = link d C g.1 in
      either e d
      (λ t x.
      let fits = subst (λ y. Fits ρ (Asked y n r) C) x g.0 in
      let w = waits_none (pending d C) (asked d C) (number d C) fits.idle (waits d C g.1) in
      let next = fits.next in
      rw t (record { settled_le = h.settled_le; number_le = h.number_le; ruled_le = h.ruled_le; asked_ge = omega arith; asked_le = omega arith }))
      (λ t. rw t h)
  link d (Applied e n v ∷ C) g =
      let h = link d C g.1 in
      either e d
      (λ t x.
      let fits = subst (λ y. Fits ρ (Applied y n v) C) x g.0 in
      let w = waits_some (pending d C) (asked d C) (number d C) n fits.note fits.waits (waits d C g.1) in
      let le = ruling_le d n (v, fits.note) C fits.ruled_as in
      rw t (record { settled_le = omega arith; number_le = le; ruled_le = h.ruled_le; asked_ge = h.asked_ge; asked_le = omega arith }))
      (λ t. rw t h)
  link d (Ruled e n v r ∷ C) g =
      let h = link d C g.1 in
      either e d
      (λ t x.
      let fits = subst (λ y. Fits ρ (Ruled y n v r) C) x g.0 in
      let next = fits.next in
      let le = note_le d n r C g.1 fits.asked_as in
      rw t (record { settled_le = omega arith; number_le = omega arith; ruled_le = omega arith; asked_ge = omega arith; asked_le = h.asked_le }))
      (λ t. rw t h)
  link d (Settled e n ∷ C) g =
      let h = link d C g.1 in
      either e d
      (λ t x.
      let fits = subst (λ y. Fits ρ (Settled y n) C) x g.0 in
      let le = applied_le d n fits.v C g.1 fits.applied_as in
      let known = fits.known in
      rw t (record { settled_le = omega arith; number_le = h.number_le; ruled_le = omega arith; asked_ge = h.asked_ge; asked_le = h.asked_le }))
      (λ t. rw t h)
  link d (_ ∷ C) g = link d C g.1
