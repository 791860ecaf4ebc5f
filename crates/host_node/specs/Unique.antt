-- The statement that what is kept of the jobs is theirs has one proof at most.
use Rattle.host_jobs.specs.declared.kept.Kept.{Kept}
use Rattle.host_jobs.specs.Rows.{Jobs}
use Rattle.host_jobs.specs.Soundness.{IsDerived}
use Rattle.host_jobs.proofs.Unique as of_jobs

pub kept_prop : (rows : Jobs) (kept : Kept) → IsProp (IsDerived rows kept)
kept_prop rows kept = of_jobs.kept_unique rows kept
