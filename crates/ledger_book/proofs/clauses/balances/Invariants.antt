use Rattle.std.proofs.Common.{ℕ, ◌≤◌, ◌<◌, reverse}
use Rattle.ledger_terms.specs.Lawful.{Solvent}
use Rattle.ledger_book.proofs.clauses.balances.Given as goal

abbrev pub invariant-loop-number : goal.invariant-loop-number
invariant-loop-number l = (c : ℕ) → 1 ≤ c → c < l.number → Solvent (reverse l.commits) c
