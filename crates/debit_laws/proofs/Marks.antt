-- Which mark is debited by one commit more.
use Rattle.std.proofs.Common.{◌≡◌, ◌⊎◌, inl, inr, ℕ, ℤ, Bool, true, false, cond, List, [], ◌∷◌, Option, Some, None, refl, sym, ap, subst, ◌∙◌}
use Rattle.std.specs.Prelude.{◌↔◌, ◌==◌, ◌&&◌, option_map}
use Rattle.std.proofs.lemmas.Bool.{eqb-true, eq-eqb, and_parts}
use Rattle.std.proofs.lemmas.Option.{same_Some}
use Rattle.bench_base.specs.declared.{ledger.Commit.Commit, ledger.Commit.TheVariants.Debited}
use Rattle.bench_base.specs.declared.ledger.Entry.TheVariants as e
use Rattle.bench_base.specs.Rows.{first_of}
use Rattle.bench_base.specs.Rules.{Rules}
use Rattle.bench_base.specs.Ledger.{Ledger, IsReleased, torn_of, counted}
use Rattle.bench_base.proofs.Facts.{some_none, found}
use Rattle.indicium.specs.declared.Mark.{Mark}
use Rattle.indicium.specs.Marks.{spell}
use Rattle.ledger_terms.specs.Devices.{key_of}
use Rattle.ledger_terms.specs.Franking.{mark_after, indicium_after, kept, marked}
use Rattle.ledger_terms.specs.Lawful.{Always}
use Rattle.psd_state.specs.State.{mark_in}
use Rattle.ledger_moves.specs.Devices.{record_in, record_with}
use Rattle.ledger_laws.proofs.Good.{Good}
use Rattle.ledger_laws.proofs.Grown.{Told}
use Rattle.ledger_laws.proofs.Franked.{kept_marked}
use Rattle.debit_laws.specs.Debits.{IsDebited, IsLast, IsOneMore}
use Rattle.debit_laws.proofs.Entries.{up_more}

-- what was debited stays so
debited_more : (mark : List ℕ) (c : Commit) (C : List Commit) → IsDebited mark C → IsDebited mark (c ∷ C)
debited_more mark (Debited d p a k t v) C was = inr was
debited_more mark _ C was = was

one_more : (mark : List ℕ) (C D : List Commit) → IsOneMore C D → IsDebited mark C → IsDebited mark D
one_more mark C D (inl same) was = subst (λ (l : List Commit). IsDebited mark l) (sym same) was
one_more mark C D (inr more) was = subst (λ (l : List Commit). IsDebited mark l) (sym more.1) (debited_more mark more.0 C was)

-- the mark of a piece was debited
pub marked_debited : (d p : ℕ) (mark : List ℕ) (C : List Commit) → marked d p C ≡ Some mark → IsDebited mark C
marked_debited d p mark [] is = absurd (some_none (sym is))
marked_debited d p mark (Debited f q a k t v ∷ C) is = by (λ was. marked_debited d p mark C was) (found ((f == d) && (q == p)) (marked d p C) (indicium_after d q a k t v C) mark is)
  where
    by : (marked d p C ≡ Some mark → IsDebited mark C) → ((((f == d) && (q == p)) ≡ true) × (indicium_after d q a k t v C ≡ mark)) ⊎ (marked d p C ≡ Some mark) → IsDebited mark (Debited f q a k t v ∷ C)
    by rest (inl new) = inl (ap (λ (z : ℕ). indicium_after z q a k t v C) (eqb-true f d (and_parts (f == d) (q == p) new.0).0) ∙ new.1)
    by rest (inr was) = inr (rest was)
marked_debited d p mark (_ ∷ C) is = marked_debited d p mark C is

module _ (ρ : Rules) where
  -- the mark that a device keeps was debited
  pub last_debited : (d : ℕ) (mark : List ℕ) (C : List Commit) → Good ρ C → mark_in (record_in d C) ≡ Some mark → IsDebited mark C
  last_debited d mark C good is = by_key (key_of d C) refl is
    where
      by_mark : (key : List ℕ) → key_of d C ≡ Some key → (o : Option Mark) → kept d C ≡ o → option_map (λ k. spell k key) o ≡ Some mark → IsDebited mark C
      by_mark key has None at same = absurd (some_none (sym same))
      by_mark key has (Some k) at same = marked_debited d k.piece mark C (kept_marked ρ d k key C good at has ∙ same)

      by_key : (o : Option (List ℕ)) → key_of d C ≡ o → mark_in (record_with d C o) ≡ Some mark → IsDebited mark C
      by_key None has same = absurd (some_none (sym same))
      by_key (Some key) has same = by_mark key has (kept d C) refl same

  -- a debit that counts is that of the mark which its device then keeps
  new_last : (d p a k : ℕ) (t : ℤ) (v : ℕ) (C : List Commit) → Good ρ (Debited d p a k t v ∷ C) → mark_in (record_in d (Debited d p a k t v ∷ C)) ≡ Some (indicium_after d p a k t v C)
  unfolding indicium_after
  new_last d p a k t v C good = let made = good.0.made in rw (made.1, eq-eqb d d refl) refl

  new_debited : (mark : List ℕ) (c : Commit) (C : List Commit) → Good ρ (c ∷ C) → IsDebited mark (c ∷ C) → IsDebited mark C ⊎ IsLast mark (c ∷ C)
  new_debited mark (Debited d p a k t v) C good (inl is) = inr (d, good.2.0, new_last d p a k t v C good ∙ ap (λ (x : List ℕ). Some x) is)
  new_debited mark (Debited d p a k t v) C good (inr was) = inl was
  new_debited mark _ C good was = inl was

  debited_after : (mark : List ℕ) (C D : List Commit) → Good ρ D → IsOneMore C D → IsDebited mark D → IsDebited mark C ⊎ IsLast mark D
  debited_after mark C D good (inl same) is = inl (subst (λ (l : List Commit). IsDebited mark l) same is)
  debited_after mark C D good (inr more) is =
      subst (λ (l : List Commit). IsDebited mark C ⊎ IsLast mark l) (sym more.1)
      (new_debited mark more.0 C (subst (λ (l : List Commit). Good ρ l) more.1 good) (subst (λ (l : List Commit). IsDebited mark l) more.1 is))

  -- what is debited after one commit more, or none
  pub debits_more : (mark : List ℕ) (C D : List Commit) → Good ρ D → IsOneMore C D → IsDebited mark D ↔ (IsDebited mark C ⊎ IsLast mark D)
  debits_more mark C D good more = (
    debited_after mark C D good more,
    λ either. elim either [
      | inl was ↦ one_more mark C D more was
      | inr last ↦ last_debited last.0 mark D good last.2
    ],
  )

-- what was released was debited
pub released_debited : (mark : List ℕ) (H : Ledger) → Always Told H → IsReleased mark H → IsDebited mark (counted H)
released_debited mark [] told is = absurd is
released_debited mark (e.Released d p y ∷ H) told (inl same) = marked_debited d p mark (counted H) (told.0.releases.1 ∙ ap (λ (z : List ℕ). Some z) same)
released_debited mark (e.Released d p y ∷ H) told (inr was) = released_debited mark H told.1 was
released_debited mark (e.Commit c ∷ H) told is = debited_more mark c (counted H) (released_debited mark H told.1 is)
released_debited mark (e.Up n k ∷ H) told is = one_more mark (counted H) (counted (e.Up n k ∷ H)) (up_more (torn_of n H) n k (counted H)) (released_debited mark H told.1 is)
released_debited mark (_ ∷ H) told is = released_debited mark H told.1 is
