use Rattle.std.proofs.Common.{◌<◌, ℕ, ◌-◌}
use Rattle.std.specs.Prelude.{IsSome}
use Rattle.host_jobs.specs.Rows.{job_row}
use Rattle.host_jobs.proofs.joined.are_gapless.Given as goal

abbrev pub invariant-loop-back : goal.invariant-loop-back
invariant-loop-back l = (i : ℕ) → i < l.back → IsSome (job_row l.rows (l.last - i))
