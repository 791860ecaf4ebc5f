-- The marks of debits: each fits its fields and reads as a mark of its device and piece; a piece has one mark; and the kept
-- mark is that of the last piece.
use Rattle.std.proofs.Common.{◌+◌, IsSome, ◌≡◌, ℕ, ℤ, ◌≤◌, Bool, true, false, List, [], ◌∷◌, Option, Some, None, Ok, refl, sym, ap, subst, ◌∙◌, ⊎_elim, arith}
use Rattle.std.specs.Prelude.{◌==◌, ◌&&◌, if◌then◌else◌}
use Rattle.std.proofs.lemmas.Bool.{eqb-true, cases_Bool, eq-eqb, and_parts}
use Rattle.std.proofs.lemmas.Option.{same_Some}
use Rattle.bench_base.specs.declared.{words.Kind.TheVariants.Enrol, ledger.Commit.Commit, ledger.Commit.TheVariants.Made, ledger.Commit.TheVariants.Applied, ledger.Commit.TheVariants.Debited, ledger.Commit.TheVariants.Registered}
use Rattle.bench_base.specs.Rules.{Rules}
use Rattle.bench_base.specs.Ranges.{IsDevice, IsWord}
use Rattle.bench_base.specs.Kinds.{is_granted, same_kind}
use Rattle.bench_base.proofs.Facts.{some_none, either, first_of_none, found}
use Rattle.indicium.specs.declared.Mark.{Mark}
use Rattle.indicium.specs.Marks as marks
use Rattle.indicium.specs.Marks.{read_mark}
use Rattle.indicium.proofs.Readings as readings
use Rattle.ledger_terms.specs.Requests.{note_of, in_note, request_of}
use Rattle.ledger_terms.specs.Sums.{ascending, pieces}
use Rattle.ledger_terms.specs.Centres.{registered, origin_in}
use Rattle.ledger_terms.specs.Devices.{key_of, applied_kind, origin, customer}
use Rattle.ledger_terms.specs.Franking.{key_or_none, mark_after, indicium_after, kept, marked}
use Rattle.ledger_terms.specs.Editions.{IsCarried}
use Rattle.ledger_laws.proofs.Good.{Good, Fits}
use Rattle.ledger_laws.proofs.Asked.{note_reads}
use Rattle.ledger_laws.proofs.Whole.{whole_mark}

pub device_word : (d : ℕ) → IsDevice d → IsWord d
device_word d h = omega arith

pub record MarkOf (d p : ℕ) (x : List ℕ) : Type 0 where
  pub mark_is : Mark
  pub code : List ℕ
  pub reads : read_mark x ≡ Ok (mark_is, code)
  pub device : mark_is.device ≡ d
  pub piece : mark_is.piece ≡ p
  pub range : IsDevice d × IsWord p

module _ (ρ : Rules) where
  -- == ranges of what a device holds ==

  pub pieces_le : (d : ℕ) (C : List Commit) → Good ρ C → pieces d C ≤ ascending d C
  pieces_le d [] g = omega arith
  pieces_le d (Debited e p a k t v ∷ C) g =
      let le = pieces_le d C g.1 in
      either e d
      (λ s y. let fits = subst (λ z. Fits ρ (Debited z p a k t v) C) y g.0 in let low = fits.low in rw s (omega arith))
      (λ s. rw s le)
  pieces_le d (_ ∷ C) g = pieces_le d C g.1

  -- the number of a piece has 32 bits, and their count has 32 bits too
  pub pieces_word : (d : ℕ) (C : List Commit) → Good ρ C → IsWord (pieces d C)
  pieces_word d [] g = omega arith
  pieces_word d (Debited e p a k t v ∷ C) g = either e d
      (λ s y. let next = subst (λ z. p ≡ pieces z C + 1) y g.0.next in rw s (omega (arith, next, g.2.1)))
      (λ s. rw s (pieces_word d C g.1))
  pieces_word d (_ ∷ C) g = pieces_word d C g.1

  origin_registered : (d : ℕ) (x : ℕ × List ℕ) (C : List Commit) → Good ρ C → registered d C ≡ Some x → IsWord x.0
  origin_registered d x [] g h = absurd (some_none (sym h))
  origin_registered d x (Registered e o k ∷ C) g h = either e d
      (λ t y. let is : (o, k) ≡ x = same_Some _ _ (rw t at h) in subst (λ (z : ℕ × List ℕ). IsWord z.0) is g.2.1)
      (λ t. origin_registered d x C g.1 (rw t at h))
  origin_registered d x (_ ∷ C) g h = origin_registered d x C g.1 h

  origin_of : (o : Option (ℕ × List ℕ)) → ((x : ℕ × List ℕ) → o ≡ Some x → IsWord x.0) → IsWord (origin_in o)
  origin_of None f = omega arith
  origin_of (Some x) f = f x refl

  pub registered_word : (d : ℕ) (C : List Commit) → Good ρ C → IsWord (origin_in (registered d C))
  registered_word d C g = origin_of (registered d C) (λ x h. origin_registered d x C g h)

  pub origin_word : (d : ℕ) (C : List Commit) → Good ρ C → IsWord (origin d C)
  origin_word d C g = go (applied_kind Enrol d C) (registered_word d C g)
    where
      go : (t : Bool) → IsWord (origin_in (registered d C)) → IsWord (if t then origin_in (registered d C) else 0)
      go true h = h
      go false h = omega arith

  customer_asked : (d n : ℕ) (o : Option (List ℕ)) (C : List Commit) → Good ρ C → note_of d n C ≡ o → IsWord (in_note o).customer
  customer_asked d n None C g h = omega arith
  customer_asked d n (Some note) C g h = (note_reads ρ d n note C g h).whole.1.1.1.1.1.1.0

  pub customer_word : (d : ℕ) (C : List Commit) → Good ρ C → IsWord (customer d C)
  customer_word d [] g = omega arith
  customer_word d (Applied e n v ∷ C) g =
      let here = customer_asked d n (note_of d n C) C g.1 refl in
      let was = customer_word d C g.1 in
      either e d
      (λ t y. ⊎_elim
      (λ (k : (is_granted v && same_kind (request_of d n C).kind Enrol) ≡ true). rw (t, k) here)
      (λ (k : (is_granted v && same_kind (request_of d n C).kind Enrol) ≡ false). rw (t, k) was)
      (cases_Bool (is_granted v && same_kind (request_of d n C).kind Enrol)))
      (λ t. rw t was)
  customer_word d (_ ∷ C) g = customer_word d C g.1

  -- == marks ==

  pub mark_fits : IsCarried ρ → (d p a k : ℕ) (t : ℤ) (v : ℕ) (C : List Commit) → Good ρ (Debited d p a k t v ∷ C) → marks.IsWhole (mark_after d p a k t v C)
  unfolding mark_after
  mark_fits carried d p a k t v C g =
      let funded = g.0.funded in
      let bound = g.0.bound in
      let known = g.0.known in
      whole_mark _ (g.0.from_1, omega (arith, known, carried.version.1)) g.2.0 g.2.1 g.2.2 (omega arith) (omega arith) g.2.4 (origin_word d C g.1) g.2.3

  -- a device that marked a piece was made
  pub marked_made : (d p : ℕ) (x : List ℕ) (C : List Commit) → Good ρ C → marked d p C ≡ Some x → IsSome (key_of d C)
  marked_made d p x [] g h = absurd (some_none (sym h))
  marked_made d p x (Made e key ∷ C) g h = either e d (λ t y. rw t refl) (λ t. rw t (marked_made d p x C g.1 h))
  marked_made d p x (Debited f q a k t v ∷ C) g h = ⊎_elim
      (λ (s : ((f == d) && (q == p)) ≡ true).
      let made = g.0.made in
      let is : f ≡ d = eqb-true f d (and_parts (f == d) (q == p) s).0 in
      subst (λ o. IsSome o) (sym (subst (λ z. key_of z C ≡ Some made.0) is made.1)) refl)
      (λ (s : ((f == d) && (q == p)) ≡ false). marked_made d p x C g.1 (rw s at h))
      (cases_Bool ((f == d) && (q == p)))
  marked_made d p x (_ ∷ C) g h = marked_made d p x C g.1 h

  pub marked_le : (d p : ℕ) (x : List ℕ) (C : List Commit) → Good ρ C → marked d p C ≡ Some x → p ≤ pieces d C
  marked_le d p x [] g h = absurd (some_none (sym h))
  marked_le d p x (Debited f q a k t v ∷ C) g h = ⊎_elim
      (λ (s : ((f == d) && (q == p)) ≡ true).
      let b = and_parts (f == d) (q == p) s in
      let is : q ≡ p = eqb-true q p b.1 in
      let fits = subst (λ z. Fits ρ (Debited z q a k t v) C) (eqb-true f d b.0) g.0 in
      let next = fits.next in
      rw b.0 (omega arith))
      (λ (s : ((f == d) && (q == p)) ≡ false).
      let le = marked_le d p x C g.1 (rw s at h) in
      either f d (λ t y. rw t (omega arith)) (λ t. rw t le))
      (cases_Bool ((f == d) && (q == p)))
  marked_le d p x (_ ∷ C) g h = marked_le d p x C g.1 h

  after_mark : IsCarried ρ → (d p a k : ℕ) (t : ℤ) (v : ℕ) (C : List Commit) → Good ρ (Debited d p a k t v ∷ C) → MarkOf d p (indicium_after d p a k t v C)
  unfolding indicium_after mark_after
  after_mark carried d p a k t v C g = record {
    mark_is = mark_after d p a k t v C;
    code = _;
    reads = readings.read_spell (mark_after d p a k t v C) (key_or_none (key_of d C)) (mark_fits carried d p a k t v C g);
    device = refl;
    piece = refl;
    range = (g.2.0, g.2.1);
  }

  -- the mark of a debit reads as one of its device and piece
  pub marked_reads : IsCarried ρ → (d p : ℕ) (x : List ℕ) (C : List Commit) → Good ρ C → marked d p C ≡ Some x → MarkOf d p x
  marked_reads carried d p x [] g h = absurd (some_none (sym h))
  marked_reads carried d p x (Debited f q a k t v ∷ C) g h = ⊎_elim
      (λ (s : (((f == d) && (q == p)) ≡ true) × (indicium_after d q a k t v C ≡ x)).
      let b = and_parts (f == d) (q == p) s.0 in
      let g' = subst (λ z. Good ρ (Debited z q a k t v ∷ C)) (eqb-true f d b.0) g in
      subst (λ z. MarkOf d p z) s.1 (subst (λ z. MarkOf d z (indicium_after d q a k t v C)) (eqb-true q p b.1) (after_mark carried d q a k t v C g')))
      (λ (o : marked d p C ≡ Some x). marked_reads carried d p x C g.1 o)
      (found ((f == d) && (q == p)) (marked d p C) (indicium_after d q a k t v C) x h)
  marked_reads carried d p x (_ ∷ C) g h = marked_reads carried d p x C g.1 h

  -- a debit is of the next piece, so its mark is the first of that piece
  pub marked_new : (d p a k : ℕ) (t : ℤ) (v : ℕ) (C : List Commit) → Good ρ (Debited d p a k t v ∷ C) → marked d p (Debited d p a k t v ∷ C) ≡ Some (indicium_after d p a k t v C)
  marked_new d p a k t v C g =
      let next = g.0.next in
      rw (eq-eqb d d refl, eq-eqb p p refl) (first_of_none (marked d p C) (Some (indicium_after d p a k t v C)) (λ x h. let le = marked_le d p x C g.1 h in omega arith))

  kept_made : (d : ℕ) (k : Mark) (C : List Commit) → Good ρ C → kept d C ≡ Some k → (key : List ℕ) × (key_of d C ≡ Some key)
  kept_made d k [] g h = absurd (some_none (sym h))
  kept_made d k (Made e key ∷ C) g h = either e d (λ t y. (key, rw t refl)) (λ t. rw t (kept_made d k C g.1 h))
  kept_made d k (Debited e p a c t v ∷ C) g h = either e d
      (λ s y. let fits = subst (λ z. Fits ρ (Debited z p a c t v) C) y g.0 in fits.made)
      (λ s. kept_made d k C g.1 (rw s at h))
  kept_made d k (_ ∷ C) g h = kept_made d k C g.1 h

  -- the kept mark is that of its piece, under the device's key
  pub kept_marked : (d : ℕ) (k : Mark) (key : List ℕ) (C : List Commit) → Good ρ C → kept d C ≡ Some k → key_of d C ≡ Some key → marked d k.piece C ≡ Some (marks.spell k key)
  unfolding mark_after indicium_after
  kept_marked d k key [] g h has = absurd (some_none (sym h))
  kept_marked d k key (Made e l ∷ C) g h has = either e d
      (λ t y.
      let made = kept_made d k C g.1 h in
      let fits = subst (λ z. key_of z C ≡ None) y g.0 in
      absurd (some_none (sym made.1 ∙ fits)))
      (λ t. kept_marked d k key C g.1 h (rw t at has))
  kept_marked d k key (Debited e p a c t v ∷ C) g h has = either e d
      (λ s y.
      let g' = subst (λ z. Good ρ (Debited z p a c t v ∷ C)) y g in
      let is : mark_after d p a c t v C ≡ k = same_Some _ _ (rw s at h) in
      let piece : p ≡ k.piece = ap (λ (z : Mark). z.piece) is in
      let new = marked_new d p a c t v C g' in
      let text : indicium_after d p a c t v C ≡ marks.spell k key = ap (λ o. marks.spell (mark_after d p a c t v C) (key_or_none o)) has ∙ ap (λ (z : Mark). marks.spell z key) is in
      subst (λ z. marked d z (Debited e p a c t v ∷ C) ≡ Some (marks.spell k key)) piece
      (subst (λ z. marked d p (Debited z p a c t v ∷ C) ≡ Some (marks.spell k key)) (sym y) (new ∙ ap (λ (z : List ℕ). Some z) text)))
      (λ s.
      let was = kept_marked d k key C g.1 (rw s at h) has in
      rw s was)
  kept_marked d k key (_ ∷ C) g h has = kept_marked d k key C g.1 h has
