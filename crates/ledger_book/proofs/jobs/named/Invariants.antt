use Rattle.std.proofs.Common.{◌≡◌, take, reverse}
use Rattle.bench_base.specs.Jobs.{job_of}
use Rattle.ledger_book.specs.Named.{named}
use Rattle.ledger_book.proofs.jobs.named.Given as goal

abbrev pub invariant-loop-commit : goal.invariant-loop-commit
invariant-loop-commit l = l.found ≡ named (job_of l.job (reverse (take l.commit-index l.commits)))
