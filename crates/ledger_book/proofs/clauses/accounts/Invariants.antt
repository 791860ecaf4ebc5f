use Rattle.std.proofs.Common.{ℕ, ◌≤◌, ◌<◌, reverse}
use Rattle.ledger_terms.specs.Lawful.{Accounts}
use Rattle.ledger_book.proofs.clauses.accounts.Given as goal

abbrev pub invariant-loop-number : goal.invariant-loop-number
invariant-loop-number l = (d : ℕ) → 1 ≤ d → d < l.number → Accounts (reverse l.commits) d
