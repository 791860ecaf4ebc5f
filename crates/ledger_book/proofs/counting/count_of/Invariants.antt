use Rattle.std.proofs.Common.{◌≡◌, ◌≤◌, take, reverse}
use Rattle.bench_base.specs.Ledger.{count_of}
use Rattle.ledger_book.proofs.counting.count_of.Given as goal

abbrev pub invariant-loop-commit : goal.invariant-loop-commit
invariant-loop-commit l = (l.count ≡ count_of l.node (reverse (take l.commit-index l.commits))) × (l.count ≤ l.commit-index)
