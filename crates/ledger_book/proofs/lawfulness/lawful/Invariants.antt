use Rattle.std.proofs.Common.{take, reverse}
use Rattle.bench_base.specs.Rules.{todays_rules}
use Rattle.ledger_terms.specs.Lawful.{Always, LawfulAt}
use Rattle.ledger_book.proofs.lawfulness.lawful.Given as goal

abbrev pub invariant-loop-end : goal.invariant-loop-end
invariant-loop-end l = Always (LawfulAt todays_rules) (reverse (take l.end l.book))
