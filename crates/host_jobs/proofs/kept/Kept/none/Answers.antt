use Rattle.host_jobs.proofs.Keeping.{none_kept}
use Rattle.host_jobs.proofs.kept.Kept.none.Goals as goal

pub returns : goal.returns
returns c = none_kept
