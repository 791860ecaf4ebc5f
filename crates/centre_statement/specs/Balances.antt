-- Each balance of a customer follows from the one before it.
use Rattle.std.specs.Prelude.{◌≡◌, ◌≤◌, ℕ, pos, List, [], ◌∷◌, Option, Some, None}
use Rattle.bench_base.specs.declared.ledger.Commit.{Commit}
use Rattle.bench_base.specs.Ranges.{IsCustomer}
use Rattle.ledger_terms.specs.Centres.{balance}
use Rattle.statement_check.specs.Places.{moved}
use Rattle.centre_statement.specs.Changes.{change_in}
use Rattle.centre_statement.specs.declared.change.Change.{Change}

-- a balance follows from the one before it by what was changed, as a statement is computed
abbrev pub Follows : Option Change → ℕ → ℕ → Type 0
Follows None before after = after ≡ before
Follows (Some x) before after = moved before x.cause x.amount ≡ pos after

-- each commit of the list leaves each customer the balance that follows from the one before it
abbrev pub BalancesFollow : List Commit → Type 0
BalancesFollow [] = Unit {0}
BalancesFollow (c ∷ C) = ((w : ℕ) → IsCustomer w → Follows (change_in c w) (balance w C) (balance w (c ∷ C))) × BalancesFollow C

-- after each commit of the list each balance is within the limit of deposits, 1,000,000,000,000,000 mills, and so fits 64 bits
abbrev pub BalancesFit : List Commit → Type 0
BalancesFit [] = Unit {0}
BalancesFit (c ∷ C) = ((w : ℕ) → IsCustomer w → balance w (c ∷ C) ≤ 1000000000000000) × BalancesFit C
