use Rattle.std.proofs.Common.{◌≡◌, ◌<◌, ℕ, get_or, length, None}
use Rattle.host_jobs.specs.declared.sizes.TheConstants.{HOST_CELLS}
use Rattle.host_jobs.proofs.kept.JobRows.clear.Given as goal

abbrev pub invariant-loop-cell : goal.invariant-loop-cell
invariant-loop-cell l = record { long : length l.self-inside.rows.items ≡ HOST_CELLS; blank : (k : ℕ) → k < l.cell → get_or l.self-inside.rows.items k None ≡ None }
