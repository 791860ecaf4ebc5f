use Rattle.std.proofs.Common.{◌≡◌, take, reverse}
use Rattle.bench_base.specs.Scans.{accepted}
use Rattle.ledger_book.proofs.jobs.accepted.Given as goal

abbrev pub invariant-loop-commit : goal.invariant-loop-commit
invariant-loop-commit l = l.found ≡ accepted l.device l.piece (reverse (take l.commit-index l.commits))
