use Rattle.std.proofs.Common.{◌↔◌, IsTrue, take, reverse}
use Rattle.bench_base.specs.Ledger.{IsPrinted}
use Rattle.ledger_book.proofs.releasing.is_printed.Given as goal

abbrev pub invariant-loop-entry : goal.invariant-loop-entry
invariant-loop-entry l = IsTrue l.found ↔ IsPrinted l.job (reverse (take l.entry-index l.book))
