-- How the counted commits grow with a ledger.
use Rattle.std.proofs.Common.{◌≡◌, ℕ, ◌+◌, Bool, true, false, cond, eqb, List, [], ◌∷◌, Option, Some, None, refl}
use Rattle.bench_base.specs.declared.{words.Node.Node, ledger.Commit.Commit, ledger.Entry.Entry, ledger.Entry.TheVariants.Commit as Counts, ledger.Entry.TheVariants.Up}
use Rattle.bench_base.specs.Ledger.{Ledger, counted, count_of, torn_of, at_up}
use Rattle.ledger_book.specs.Growth.{newest, grown, settled_by}
use Rattle.ledger_terms.specs.Lawful.{Always}

-- one more entry adds only the commit that counts by it
at_up_grown : (o : Option Commit) (n : Node) (k : ℕ) (C : List Commit) → at_up o n k C ≡ grown (settled_by o n k C) C
at_up_grown None n k C = refl
at_up_grown (Some c) n k C = go (eqb k (count_of n C + 1))
  where
    go : (b : Bool) → cond b (c ∷ C) C ≡ grown (cond b (Some c) None) C
    go true = refl
    go false = refl

pub counted_grown : (x : Entry) (H : Ledger) → counted (x ∷ H) ≡ grown (newest (x ∷ H)) (counted H)
counted_grown (Counts c) H = refl
counted_grown (Up n k) H = at_up_grown (torn_of n H) n k (counted H)
counted_grown _ H = refl

-- what holds of the counted commits of each prefix always holds of the counted commits
at_up_always : (Q : List Commit → Type 0) (o : Option Commit) (n : Node) (k : ℕ) (C : List Commit) → Q (at_up o n k C) → Always Q C → Always Q (at_up o n k C)
at_up_always Q None n k C now h = h
at_up_always Q (Some c) n k C now h = go (eqb k (count_of n C + 1)) now
  where
    go : (b : Bool) → Q (cond b (c ∷ C) C) → Always Q (cond b (c ∷ C) C)
    go true q = (q, h)
    go false q = h

pub always_counted : (Q : List Commit → Type 0) (H : Ledger) → Always (λ P. Q (counted P)) H → Always Q (counted H)
always_counted Q [] h = h
always_counted Q (Counts c ∷ H) h = (h.0, always_counted Q H h.1)
always_counted Q (Up n k ∷ H) h = at_up_always Q (torn_of n H) n k (counted H) h.0 (always_counted Q H h.1)
always_counted Q (_ ∷ H) h = always_counted Q H h.1
