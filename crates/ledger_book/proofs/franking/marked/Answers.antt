use Rattle.std.proofs.Common.{arith}
use Rattle.bench_base.specs.Rules.{todays_rules}
use Rattle.ledger_terms.specs.Lawful.{Debits}
use Rattle.ledger_book.proofs.Prefixes.{always_at}
use Rattle.ledger_book.proofs.franking.marked.Goals as goal

pub marked_in-requires : goal.marked_in-requires
marked_in-requires c = always_at (Debits todays_rules) c.args.commits.now c.loop-i.i c.index-commits-i.result (omega arith) c.index-commits-i.is c.requires
