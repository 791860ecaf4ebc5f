use Rattle.std.proofs.Common.{◌≡◌, ◌<◌, ℕ, get_or, length, None}
use Rattle.host_jobs.proofs.kept.JobRows.new.Given as goal

abbrev pub invariant-loop-cell : goal.invariant-loop-cell
invariant-loop-cell l = record { long : length l.rows.items ≡ l._cell; blank : (k : ℕ) → k < l._cell → get_or l.rows.items k None ≡ None }
