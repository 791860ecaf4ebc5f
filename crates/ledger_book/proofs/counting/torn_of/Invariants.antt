use Rattle.std.proofs.Common.{◌≡◌, take, reverse}
use Rattle.bench_base.specs.Ledger.{torn_of}
use Rattle.ledger_book.proofs.counting.torn_of.Given as goal

abbrev pub invariant-loop-entry : goal.invariant-loop-entry
invariant-loop-entry l = l.open ≡ torn_of l.node (reverse (take l.entry-index l.book))
