use Rattle.std.proofs.Common.{◌≡◌, take, reverse}
use Rattle.bench_base.specs.Jobs.{held_of}
use Rattle.ledger_book.proofs.jobs.held_of.Given as goal

abbrev pub invariant-loop-commit : goal.invariant-loop-commit
invariant-loop-commit l = l.found ≡ held_of l.job (reverse (take l.commit-index l.commits))
