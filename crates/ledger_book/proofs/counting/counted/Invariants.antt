use Rattle.std.proofs.Common.{◌≡◌, take, reverse}
use Rattle.bench_base.specs.Ledger.{counted}
use Rattle.ledger_book.proofs.counting.counted.Given as goal

abbrev pub invariant-loop-i : goal.invariant-loop-i
invariant-loop-i l = reverse l.commits.items ≡ counted (reverse (take l.i l.book))
