-- Debits by their marks: which marks were debited, and which mark a device keeps.
use Rattle.std.specs.Prelude.{◌≡◌, ◌⊎◌, ◌↔◌, ℕ, List, [], ◌∷◌, Some}
use Rattle.bench_base.specs.declared.{ledger.Commit.Commit, ledger.Commit.TheVariants.Debited}
use Rattle.bench_base.specs.Ranges.{IsDevice}
use Rattle.bench_base.specs.Ledger.{Ledger, counted}
use Rattle.ledger_terms.specs.Franking.{indicium_after}
use Rattle.psd_state.specs.State.{mark_in}
use Rattle.ledger_moves.specs.Devices.{record_in}

-- THE MARK WAS DEBITED: it is the spelling of the mark of a Debited among the commits, the newest first
abbrev pub IsDebited : List ℕ → List Commit → Type 0
IsDebited mark [] = ⊥
IsDebited mark (Debited d piece postage class day version ∷ C) = (indicium_after d piece postage class day version C ≡ mark) ⊎ IsDebited mark C
IsDebited mark (_ ∷ C) = IsDebited mark C

-- a device keeps this mark, of its last debit
abbrev pub IsLast : List ℕ → List Commit → Type 0
IsLast mark C = (d : ℕ) × IsDevice d × (mark_in (record_in d C) ≡ Some mark)

-- the second are the first, or these and one commit more
abbrev pub IsOneMore : List Commit → List Commit → Type 0
IsOneMore before after = (after ≡ before) ⊎ ((c : Commit) × (after ≡ c ∷ before))

-- what was debited at K is what was debited at H, and the marks that the devices keep at K
abbrev pub DebitsMore : Ledger → Ledger → Type 0
DebitsMore H K = (mark : List ℕ) → IsDebited mark (counted K) ↔ (IsDebited mark (counted H) ⊎ IsLast mark (counted K))
