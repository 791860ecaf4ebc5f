-- The messages of a run, as the ledger shows them to the bench: the first that was sent first.
use Rattle.std.specs.Prelude.{ℕ, ◌≤◌, List, [], ◌∷◌, ◌++◌, length}
use Rattle.bench_base.specs.declared.{ledger.Entry.Entry, ledger.Entry.TheVariants.Sent, ledger.Entry.TheVariants.Begin}
use Rattle.bench_base.specs.Ledger.{Ledger}

abbrev pub sent_in : Ledger → List (List ℕ)
sent_in [] = []
sent_in (Sent bytes ∷ H) = sent_in H ++ bytes ∷ []
sent_in (Begin ∷ H) = []
sent_in (_ ∷ H) = sent_in H

-- no message is among these entries
abbrev pub SendsNone : List Entry → Type 0
SendsNone [] = Unit {0}
SendsNone (Sent bytes ∷ T) = ⊥
SendsNone (_ ∷ T) = SendsNone T

-- what one event adds, the newest first: at most three entries, and only the newest may be a message
abbrev pub IsFew : List Entry → Type 0
IsFew [] = Unit {0}
IsFew (x ∷ T) = (length T ≤ 2) × SendsNone T
