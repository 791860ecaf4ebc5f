use Rattle.std.proofs.Common.{ℕ, ◌≤◌, ◌<◌, reverse}
use Rattle.ledger_terms.specs.Lawful.{Totals}
use Rattle.bench_base.specs.Rules.{todays_rules}
use Rattle.ledger_book.proofs.clauses.totals.Given as goal

abbrev pub invariant-loop-number : goal.invariant-loop-number
invariant-loop-number l = (d : ℕ) → 1 ≤ d → d < l.number → Totals todays_rules (reverse l.commits) d
