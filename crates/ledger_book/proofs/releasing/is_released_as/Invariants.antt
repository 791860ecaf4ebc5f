use Rattle.std.proofs.Common.{◌↔◌, IsTrue, take, reverse}
use Rattle.bench_base.specs.Ledger.{IsReleasedAs}
use Rattle.ledger_book.proofs.releasing.is_released_as.Given as goal

abbrev pub invariant-loop-entry : goal.invariant-loop-entry
invariant-loop-entry l = IsTrue l.found ↔ IsReleasedAs l.device l.piece (reverse (take l.entry-index l.book))
