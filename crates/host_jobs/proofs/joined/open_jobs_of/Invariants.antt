use Rattle.host_jobs.proofs.Walks.{Walked}
use Rattle.host_jobs.proofs.joined.open_jobs_of.Given as goal

abbrev pub invariant-loop-cell : goal.invariant-loop-cell
invariant-loop-cell l = Walked l.rows l.cell l.open_jobs
