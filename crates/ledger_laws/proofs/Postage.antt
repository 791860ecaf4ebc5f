-- Mail that was accepted was franked. An accepted piece was released and so debited before; a piece is debited once and accepted
-- once; so the postage of what was accepted is that of some of the debits.
use Rattle.std.proofs.Common.{◌≡◌, ℕ, ◌+◌, ◌≤◌, Bool, true, false, cond, List, [], ◌∷◌, Option, Some, None, IsSomeAnd, is_some, unwrap_or, refl, sym, ap, subst, ◌∙◌, true≢false, ⊎_elim, arith}
use Rattle.std.specs.Prelude.{◌==◌, ◌&&◌, if◌then◌else◌}
use Rattle.std.proofs.lemmas.Bool.{cases_Bool, eqb-true, eq-eqb, ne_eqb, and_parts}
use Rattle.bench_base.specs.declared.{words.Node.Node, ledger.Commit.Commit, ledger.Commit.TheVariants.Debited, ledger.Commit.TheVariants.Accepted}
use Rattle.bench_base.specs.declared.ledger.Entry.TheVariants as entry
use Rattle.bench_base.specs.Rules.{Rules}
use Rattle.bench_base.specs.Ledger.{Ledger, IsReleasedAs, count_of, torn_of, at_up, counted}
use Rattle.bench_base.specs.Scans.{accepted}
use Rattle.bench_base.proofs.Facts.{some_none, either, kept_first, none_if, first_of_some, found}
use Rattle.ledger_terms.specs.Sums.{ascending, pieces}
use Rattle.ledger_terms.specs.Franking.{marked}
use Rattle.ledger_terms.specs.Lawful.{Always}
use Rattle.ledger_terms.specs.Further.{postage_of, sum_of, accepted_postage, Paid}
use Rattle.ledger_laws.proofs.Good.{Good, Fits}
use Rattle.ledger_laws.proofs.Grown.{Inv, Told, Sure, NewestSure}
use Rattle.ledger_laws.proofs.Money.{account}
use Rattle.ledger_laws.proofs.HostPlans.{good_before}

-- == what was accepted was debited before ==

abbrev IsDebited : ℕ → ℕ → List Commit → Type 0
IsDebited d p C = (a : ℕ) × (postage_of d p C ≡ Some a)

-- each piece that was accepted was debited before
abbrev AreDebited : List Commit → Type 0
AreDebited [] = Unit {0}
AreDebited (Accepted d p s ∷ C) = IsDebited d p C × AreDebited C
AreDebited (_ ∷ C) = AreDebited C

debited_kept : (d p : ℕ) (c : Commit) (C : List Commit) → IsDebited d p C → IsDebited d p (c ∷ C)
debited_kept d p (Debited e q a k t v) C h = (h.0, kept_first ((e == d) && (q == p)) (postage_of d p C) a h.0 h.1)
debited_kept d p _ C h = h

marked_debited : (d p : ℕ) (x : List ℕ) (C : List Commit) → marked d p C ≡ Some x → IsDebited d p C
marked_debited d p x [] h = absurd (some_none (sym h))
marked_debited d p x (Debited e q a k t v ∷ C) h = ⊎_elim
    (λ (b : ((e == d) && (q == p)) ≡ true). let is = first_of_some (postage_of d p C) a in (is.0, rw b is.1))
    (λ (b : ((e == d) && (q == p)) ≡ false). let was = marked_debited d p x C (rw b at h) in (was.0, rw b was.1))
    (cases_Bool ((e == d) && (q == p)))
marked_debited d p x (_ ∷ C) h = marked_debited d p x C h

up_debited : (d p : ℕ) (w : Option Commit) (n : Node) (k : ℕ) (C : List Commit) → IsDebited d p C → IsDebited d p (at_up w n k C)
up_debited d p None n k C h = h
up_debited d p (Some c) n k C h = go (k == count_of n C + 1)
  where
    go : (b : Bool) → IsDebited d p (cond b (c ∷ C) C)
    go true = debited_kept d p c C h
    go false = h

released_debited : (d p : ℕ) (H : Ledger) → Always Told H → IsReleasedAs d p H → IsDebited d p (counted H)
released_debited d p [] told h = absurd h
released_debited d p (entry.Released f q x ∷ H) told h = ⊎_elim
    (λ (s : (f ≡ d) × (q ≡ p)). subst (λ (y : ℕ × ℕ). IsDebited y.0 y.1 (counted H)) (λ i. (s.0 i, s.1 i)) (marked_debited f q x (counted H) told.0.releases.1))
    (λ (s : IsReleasedAs d p H). released_debited d p H told.1 s)
    h
released_debited d p (entry.Commit c ∷ H) told h = debited_kept d p c (counted H) (released_debited d p H told.1 h)
released_debited d p (entry.Up n k ∷ H) told h = up_debited d p (torn_of n H) n k (counted H) (released_debited d p H told.1 h)
released_debited d p (_ ∷ H) told h = released_debited d p H told.1 h

-- in the ledger P, which has no more releases than H, the commit counts after those of H
newest_debited : (P H : Ledger) (c : Commit) → ((d p : ℕ) → IsReleasedAs d p P → IsReleasedAs d p H) → Always Told H → Sure c P → AreDebited (counted H) → AreDebited (c ∷ counted H)
newest_debited P H (Accepted d p s) before told sure h = (released_debited d p H told (before d p sure), h)
newest_debited P H _ before told sure h = h

shown_debited : (n : Node) (k : ℕ) (w : Option Commit) (H : Ledger) → Always Told H → NewestSure (entry.Up n k ∷ H) (at_up w n k (counted H)) → AreDebited (counted H) → AreDebited (at_up w n k (counted H))
shown_debited n k None H told sure h = h
shown_debited n k (Some c) H told sure h = go (k == count_of n (counted H) + 1) sure
  where
    go : (b : Bool) → NewestSure (entry.Up n k ∷ H) (cond b (c ∷ counted H) (counted H)) → AreDebited (cond b (c ∷ counted H) (counted H))
    go true sure = newest_debited (entry.Up n k ∷ H) H c (λ d p s. s) told sure h
    go false sure = h

all_debited : (H : Ledger) → Always Told H → AreDebited (counted H)
all_debited [] told = tt
all_debited (entry.Commit c ∷ H) told = newest_debited (entry.Commit c ∷ H) H c (λ d p s. s) told.1 told.0.sure (all_debited H told.1)
all_debited (entry.Up n k ∷ H) told = shown_debited n k (torn_of n H) H told.1 told.0.sure (all_debited H told.1)
all_debited (_ ∷ H) told = all_debited H told.1

accepted_debited : (d p s : ℕ) (C : List Commit) → AreDebited C → accepted d p C ≡ Some s → IsDebited d p C
accepted_debited d p s [] all h = absurd (some_none (sym h))
accepted_debited d p s (Accepted e q r ∷ C) all h = ⊎_elim
    (λ (x : (((e == d) && (q == p)) ≡ true) × (r ≡ s)).
    let both = and_parts (e == d) (q == p) x.0 in
    subst (λ (y : ℕ × ℕ). IsDebited y.0 y.1 C) (λ i. (eqb-true e d both.0 i, eqb-true q p both.1 i)) all.0)
    (λ (x : accepted d p C ≡ Some s). accepted_debited d p s C all.1 x)
    (found ((e == d) && (q == p)) (accepted d p C) r s h)
accepted_debited d p s (Debited e q a k t v ∷ C) all h = debited_kept d p (Debited e q a k t v) C (accepted_debited d p s C all h)
accepted_debited d p s (_ ∷ C) all h = accepted_debited d p s C all h

-- == which pieces are accepted ==

abbrev is_accepted : ℕ → List Commit → ℕ → Bool
is_accepted d C p = is_some (accepted d p C)

accepted_now : (e d p n : ℕ) (C : List Commit) → (e == d) ≡ true → accepted d p C ≡ None → is_accepted d (Accepted e p n ∷ C) p ≡ true
accepted_now e d p n C s new = rw (s, eq-eqb p p refl, new) refl

accepted_before : (e d p n q : ℕ) (C : List Commit) → (e == d) ≡ true → (q ≡ p → ⊥) → is_accepted d (Accepted e p n ∷ C) q ≡ is_accepted d C q
accepted_before e d p n q C s other = rw (s, ne_eqb p q (λ x. other (sym x))) refl

accepted_elsewhere : (e d p n q : ℕ) (C : List Commit) → (e == d) ≡ false → is_accepted d C q ≡ is_accepted d (Accepted e p n ∷ C) q
accepted_elsewhere e d p n q C s = rw s refl

-- == the postage of some of the debits ==

-- the postage of the debits of these pieces
abbrev postage_where : (ℕ → Bool) → ℕ → List Commit → ℕ
postage_where f d [] = 0
postage_where f d (Debited e p a k t v ∷ C) = if e == d then (if f p then postage_where f d C + a else postage_where f d C) else postage_where f d C
postage_where f d (_ ∷ C) = postage_where f d C

within : (f : ℕ → Bool) (d : ℕ) (C : List Commit) → postage_where f d C ≤ ascending d C
within f d [] = omega arith
within f d (Debited e p a k t v ∷ C) =
    let le = within f d C in
    either e d
    (λ s y. ⊎_elim
    (λ (b : f p ≡ true). rw (s, b) (omega arith))
    (λ (b : f p ≡ false). rw (s, b) (omega arith))
    (cases_Bool (f p)))
    (λ s. rw s le)
within f d (_ ∷ C) = within f d C

sum_some : (x y : Option ℕ) (a b : ℕ) → x ≡ Some a → y ≡ Some b → sum_of x y ≡ Some (a + b)
sum_some x y a b e h = rw (e, h) refl

module _ (ρ : Rules) where
  debited_le : (d p a : ℕ) (C : List Commit) → Good ρ C → postage_of d p C ≡ Some a → p ≤ pieces d C
  debited_le d p a [] good h = absurd (some_none (sym h))
  debited_le d p a (Debited e q b k t v ∷ C) good h = ⊎_elim
      (λ (s : ((e == d) && (q == p)) ≡ true).
      let both = and_parts (e == d) (q == p) s in
      let is : q ≡ p = eqb-true q p both.1 in
      let fits = subst (λ z. Fits ρ (Debited z q b k t v) C) (eqb-true e d both.0) good.0 in
      let next = fits.next in
      rw both.0 (omega arith))
      (λ (s : ((e == d) && (q == p)) ≡ false).
      let le = debited_le d p a C good.1 (rw s at h) in
      either e d (λ t y. rw t (omega arith)) (λ t. rw t le))
      (cases_Bool ((e == d) && (q == p)))
  debited_le d p a (_ ∷ C) good h = debited_le d p a C good.1 h

  -- one piece more adds the postage of its debit, since it has no other
  one_more : (f g : ℕ → Bool) (d p : ℕ) → f p ≡ false → g p ≡ true → ((q : ℕ) → (q ≡ p → ⊥) → g q ≡ f q) → (C : List Commit) → Good ρ C → postage_where g d C ≡ postage_where f d C + unwrap_or (postage_of d p C) 0
  one_more f g d p was now others [] good = omega arith
  one_more f g d p was now others (Debited e q a k t v ∷ C) good =
      let more = one_more f g d p was now others C good.1 in
      either e d
      (λ s y.
      let next = subst (λ z. q ≡ pieces z C + 1) y good.0.next in
      either q p
      (λ r x.
      let none : postage_of d p C ≡ None = none_if (postage_of d p C) (λ b o. let le = debited_le d p b C good.1 o in omega arith) in
      let nothing : unwrap_or (postage_of d p C) 0 ≡ 0 = ap (λ (o : Option ℕ). unwrap_or o 0) none in
      rw (s, r, ap g x ∙ now, ap f x ∙ was, none) (omega arith))
      (λ r.
      let other = others q (λ x. true≢false (sym (eq-eqb q p x) ∙ r)) in
      ⊎_elim
      (λ (u : f q ≡ true). rw (s, r, other ∙ u, u) (omega arith))
      (λ (u : f q ≡ false). rw (s, r, other ∙ u, u) more)
      (cases_Bool (f q))))
      (λ s. rw s more)
  one_more f g d p was now others (_ ∷ C) good = one_more f g d p was now others C good.1

  -- what was accepted has the postage of the debits of accepted pieces
  by_debits : (d : ℕ) (C : List Commit) → Good ρ C → AreDebited C → accepted_postage d C ≡ Some (postage_where (is_accepted d C) d C)
  by_debits d [] good all = refl
  by_debits d (Debited e p a k t v ∷ C) good all =
      let was = by_debits d C good.1 all in
      either e d
      (λ s y.
      let next = subst (λ z. p ≡ pieces z C + 1) y good.0.next in
      let new : accepted d p C ≡ None = none_if (accepted d p C) (λ n o. let it = accepted_debited d p n C all o in let le = debited_le d p it.0 C good.1 it.1 in omega arith) in
      rw (s, new) was)
      (λ s. rw s was)
  by_debits d (Accepted e p n ∷ C) good all =
      let was = by_debits d C good.1 all.1 in
      either e d
      (λ s y.
      let at = subst (λ z. IsDebited z p C) y all.0 in
      let new = subst (λ z. accepted z p C ≡ None) y good.0.new in
      let more = one_more (is_accepted d C) (is_accepted d (Accepted e p n ∷ C)) d p (ap is_some new) (accepted_now e d p n C s new) (λ q other. accepted_before e d p n q C s other) C good.1 in
      let here : accepted_postage d (Accepted e p n ∷ C) ≡ sum_of (accepted_postage d C) (postage_of d p C) = rw s (refl {a = sum_of (accepted_postage d C) (postage_of d p C)}) in
      let sum : postage_where (is_accepted d C) d C + at.0 ≡ postage_where (is_accepted d (Accepted e p n ∷ C)) d C = sym (more ∙ ap (λ (o : Option ℕ). postage_where (is_accepted d C) d C + unwrap_or o 0) at.1) in
      here ∙ sum_some (accepted_postage d C) (postage_of d p C) (postage_where (is_accepted d C) d C) at.0 was at.1 ∙ ap (λ (x : ℕ). Some x) sum)
      (λ s.
      let here : accepted_postage d (Accepted e p n ∷ C) ≡ accepted_postage d C = rw s (refl {a = accepted_postage d C}) in
      let same : postage_where (is_accepted d C) d C ≡ postage_where (is_accepted d (Accepted e p n ∷ C)) d C = λ i. postage_where (λ q. accepted_elsewhere e d p n q C s i) d C in
      here ∙ was ∙ ap (λ (x : ℕ). Some x) same)
  by_debits d (_ ∷ C) good all = by_debits d C good.1 all

  paid : (C : List Commit) → Good ρ C → AreDebited C → (d : ℕ) → Paid C d
  paid C good all d =
      let a = account ρ d C good in
      let equal = a.equal in
      record {
        franked = subst (λ (o : Option ℕ). IsSomeAnd o (λ postage. postage ≤ ascending d C)) (sym (by_debits d C good all)) (within (is_accepted d C) d C);
        bought = omega arith;
      }

  always_paid : (H : Ledger) → Good ρ (counted H) → Always Told H → Always (λ P. (d : ℕ) → Paid (counted P) d) H
  always_paid [] good told = paid [] good tt
  always_paid (k ∷ H) good told = (paid (counted (k ∷ H)) good (all_debited (k ∷ H) told), always_paid H (good_before ρ k H good) told.1)

  pub all_paid : (H : Ledger) → Inv ρ H → Always (λ P. (d : ℕ) → Paid (counted P) d) H
  all_paid H i = always_paid H i.good i.told
