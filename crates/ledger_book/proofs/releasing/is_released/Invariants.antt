use Rattle.std.proofs.Common.{◌↔◌, IsTrue, take, reverse}
use Rattle.bench_base.specs.Ledger.{IsReleased}
use Rattle.ledger_book.proofs.releasing.is_released.Given as goal

abbrev pub invariant-loop-entry : goal.invariant-loop-entry
invariant-loop-entry l = IsTrue l.found ↔ IsReleased l.mark (reverse (take l.entry-index l.book))
