use Rattle.std.proofs.Common.{◌≡◌, take, reverse}
use Rattle.bench_base.specs.Jobs.{begun}
use Rattle.ledger_book.proofs.jobs.is_begun.Given as goal

abbrev pub invariant-loop-commit : goal.invariant-loop-commit
invariant-loop-commit l = l.found ≡ begun l.job (reverse (take l.commit-index l.commits))
