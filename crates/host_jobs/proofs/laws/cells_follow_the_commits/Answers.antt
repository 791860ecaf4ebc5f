use Rattle.host_jobs.proofs.Seeing.{seen_laws}
use Rattle.host_jobs.proofs.laws.cells_follow_the_commits.Goals as goal

pub returns : goal.returns
returns c = seen_laws
