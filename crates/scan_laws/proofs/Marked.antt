-- A released mark shows the postage of its debit; and a piece is accepted under one number.
use Rattle.std.proofs.Common.{◌≡◌, ℕ, ℤ, Bool, true, false, cond, List, [], ◌∷◌, Option, Some, None, Ok, refl, sym, ap, subst, ◌∙◌, inl, inr}
use Rattle.std.specs.Prelude.{◌==◌, ◌&&◌, All, Contains}
use Rattle.std.proofs.lemmas.Bool.{eqb-true, eq-eqb, and_parts}
use Rattle.std.proofs.lemmas.List.Elements.{All-nil, All-cons, All-contains, All-weaker}
use Rattle.bench_base.specs.declared.{ledger.Commit.Commit, ledger.Commit.TheVariants.Debited, ledger.Commit.TheVariants.Accepted}
use Rattle.bench_base.specs.declared.ledger.Entry.TheVariants as e
use Rattle.bench_base.specs.Rows.{first_of}
use Rattle.bench_base.specs.Rules.{Rules}
use Rattle.bench_base.specs.Ledger.{Ledger, IsReleased, counted}
use Rattle.bench_base.specs.Scans.{accepted}
use Rattle.bench_base.proofs.Facts.{kept_first, ok_same}
use Rattle.indicium.specs.declared.Mark.{Mark}
use Rattle.indicium.specs.Marks.{read_mark}
use Rattle.indicium.proofs.Readings as readings
use Rattle.ledger_terms.specs.Devices.{key_of}
use Rattle.ledger_terms.specs.Franking.{key_or_none, mark_after, indicium_after, marked}
use Rattle.ledger_terms.specs.Editions.{Editions, IsCarried}
use Rattle.ledger_terms.specs.Further.{postage_of}
use Rattle.ledger_terms.specs.Lawful.{Always}
use Rattle.ledger_moves.specs.Histories.{History}
use Rattle.ledger_moves.specs.Tariffs.{Tariff}
use Rattle.ledger_laws.proofs.Good.{Good}
use Rattle.ledger_laws.proofs.Grown.{Inv, Told}
use Rattle.ledger_laws.proofs.Franked.{mark_fits}
use Rattle.ledger_laws.proofs.Histories.{histories, allows_same, carried_by}
use Rattle.scan_laws.proofs.Entries.{Is, counted_kept}

-- the bytes read as a mark of this device, piece and postage
pub record IsMarkOf (d p a : ℕ) (x : List ℕ) : Type 0 where
  pub mark : Mark
  pub code : List ℕ
  pub reads : read_mark x ≡ Ok (mark, code)
  pub device : mark.device ≡ d
  pub piece : mark.piece ≡ p
  pub postage : mark.postage ≡ a

-- the mark is that of the debit of this postage, if there is one
abbrev Match : ℕ → ℕ → Option (List ℕ) → Option ℕ → Type 0
Match d p None None = Unit {0}
Match d p (Some x) (Some a) = IsMarkOf d p a x
Match d p None (Some a) = ⊥
Match d p (Some x) None = ⊥

match_first : (d p : ℕ) (o : Option (List ℕ)) (u : Option ℕ) (x : List ℕ) (a : ℕ) → Match d p o u → IsMarkOf d p a x → Match d p (first_of o (Some x)) (first_of u (Some a))
match_first d p None None x a was new = new
match_first d p (Some y) (Some b) x a was new = was
match_first d p None (Some b) x a was new = absurd was
match_first d p (Some y) None x a was new = absurd was

match_if : (d p : ℕ) (t : Bool) (o : Option (List ℕ)) (u : Option ℕ) (x : List ℕ) (a : ℕ) → Match d p o u → (t ≡ true → IsMarkOf d p a x) → Match d p (cond t (first_of o (Some x)) o) (cond t (first_of u (Some a)) u)
match_if d p true o u x a was new = match_first d p o u x a was (new refl)
match_if d p false o u x a was new = was

new_mark : (ρ : Rules) → IsCarried ρ → (d p a k : ℕ) (t : ℤ) (v : ℕ) (C : List Commit) → Good ρ (Debited d p a k t v ∷ C) → IsMarkOf d p a (indicium_after d p a k t v C)
unfolding indicium_after mark_after
new_mark ρ carried d p a k t v C good = record {
  mark = mark_after d p a k t v C;
  code = _;
  reads = readings.read_spell (mark_after d p a k t v C) (key_or_none (key_of d C)) (mark_fits ρ carried d p a k t v C good);
  device = refl;
  piece = refl;
  postage = refl;
}

mark_matches : (ρ : Rules) → IsCarried ρ → (d p : ℕ) (C : List Commit) → Good ρ C → Match d p (marked d p C) (postage_of d p C)
mark_matches ρ carried d p [] good = tt
mark_matches ρ carried d p (Debited f q a k t v ∷ C) good =
    match_if d p ((f == d) && (q == p)) (marked d p C) (postage_of d p C) (indicium_after d q a k t v C) a (mark_matches ρ carried d p C good.1)
    (λ same.
    let both = and_parts (f == d) (q == p) same in
    subst (λ (z : ℕ). IsMarkOf d z a (indicium_after d q a k t v C)) (eqb-true q p both.1)
    (new_mark ρ carried d q a k t v C (subst (λ (z : ℕ). Good ρ (Debited z q a k t v ∷ C)) (eqb-true f d both.0) good)))
mark_matches ρ carried d p (_ ∷ C) good = mark_matches ρ carried d p C good.1

by_match : (d p : ℕ) (o : Option (List ℕ)) (u : Option ℕ) (x : List ℕ) → Match d p o u → o ≡ Some x → (a : ℕ) × (u ≡ Some a) × IsMarkOf d p a x
by_match d p None u x is same = absurd (cc)
by_match d p (Some y) None x is same = absurd is
by_match d p (Some y) (Some a) x is same = (a, refl, subst (λ (z : List ℕ). IsMarkOf d p a z) (cc) is)

-- == what was released was marked ==

abbrev IsMarked : List ℕ → List Commit → Type 0
IsMarked x C = (d p : ℕ) × (marked d p C ≡ Some x)

marked_more : (x : List ℕ) (c : Commit) (C : List Commit) → IsMarked x C → IsMarked x (c ∷ C)
marked_more x (Debited f q a k t v) C is = (is.0, is.1, kept_first ((f == is.0) && (q == is.1)) (marked is.0 is.1 C) (indicium_after is.0 q a k t v C) x is.2)
marked_more x _ C is = is

released_marked : (x : List ℕ) (H : Ledger) → Always Told H → IsReleased x H → IsMarked x (counted H)
released_marked x [] told is = absurd is
released_marked x (e.Released d p y ∷ H) told (inl same) = (d, p, told.0.releases.1 ∙ ap (λ (z : List ℕ). Some z) same)
released_marked x (e.Released d p y ∷ H) told (inr was) = released_marked x H told.1 was
released_marked x (e.Commit c ∷ H) told is = marked_more x c (counted H) (released_marked x H told.1 is)
released_marked x (e.Up n k ∷ H) told is = counted_kept (IsMarked x) (marked_more x) (e.Up n k) H (released_marked x H told.1 is)
released_marked x (_ ∷ H) told is = released_marked x H told.1 is

-- == by histories ==

module _ (τ : Tariff) (ρ : Rules) (ρs : List Rules) (H : Ledger) (E : Editions (ρ ∷ ρs)) (h : History τ (ρ ∷ ρs) H) where
  kept : Inv ρ H
  kept = histories τ (ρ ∷ ρs) E H h ρ (carried_by ρs ρ E.0, allows_same ρ)

  -- a released mark shows the postage of its debit
  pub released_postage : (x : List ℕ) (k : Mark) (code : List ℕ) → IsReleased x H → read_mark x ≡ Ok (k, code) → postage_of k.device k.piece (counted H) ≡ Some k.postage
  released_postage x k code released reads =
      let is = released_marked x H kept.told released in
      let found = by_match is.0 is.1 _ _ x (mark_matches ρ (carried_by ρs ρ E.0) is.0 is.1 (counted H) kept.good) is.2 in
      let of = found.2 in
      let same : of.mark ≡ k = ap (λ (m : Mark × List ℕ). m.0) (ok_same (sym of.reads ∙ reads)) in
      subst (λ (m : Mark). postage_of m.device m.piece (counted H) ≡ Some m.postage) same
      (subst (λ (a : ℕ). postage_of of.mark.device of.mark.piece (counted H) ≡ Some a) (sym of.postage)
      (subst (λ (p : ℕ). postage_of of.mark.device p (counted H) ≡ Some found.0) (sym of.piece)
      (subst (λ (d : ℕ). postage_of d is.1 (counted H) ≡ Some found.0) (sym of.device) found.1)))

  -- each acceptance is the first of its piece
  first_more : (c : Commit) (C : List Commit) → Good ρ (c ∷ C) → Is (λ d p n. accepted d p (c ∷ C) ≡ Some n) c
  first_more (Accepted d p n) C good = rw (eq-eqb d d refl, eq-eqb p p refl, good.0.new) refl
  first_more _ C good = tt

  still_first : (c x : Commit) (C : List Commit) → Is (λ d p n. accepted d p C ≡ Some n) x → Is (λ d p n. accepted d p (c ∷ C) ≡ Some n) x
  still_first (Accepted f q s) (Accepted d p n) C is = kept_first ((f == d) && (q == p)) (accepted d p C) s n is
  still_first c (Accepted d p n) C is = is
  still_first c _ C is = tt

  all_first : (C : List Commit) → Good ρ C → All (Is (λ d p n. accepted d p C ≡ Some n)) C
  all_first [] good = All-nil (Is (λ d p n. accepted d p [] ≡ Some n))
  all_first (c ∷ C) good =
      All-cons (Is (λ d p n. accepted d p (c ∷ C) ≡ Some n)) c C (first_more c C good)
      (All-weaker (Is (λ d p n. accepted d p C ≡ Some n)) (Is (λ d p n. accepted d p (c ∷ C) ≡ Some n)) (λ x is. still_first c x C is) C (all_first C good.1))

  pub one_number : (d p n : ℕ) → Contains (counted H) (Accepted d p n) → accepted d p (counted H) ≡ Some n
  one_number d p n within = All-contains (Is (λ d p n. accepted d p (counted H) ≡ Some n)) (counted H) (Accepted d p n) (all_first (counted H) kept.good) within
