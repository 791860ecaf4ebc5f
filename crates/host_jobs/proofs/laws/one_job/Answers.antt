use Rattle.host_jobs.proofs.JobBytes.{payload_laws}
use Rattle.host_jobs.proofs.laws.one_job.Goals as goal

pub returns : goal.returns
returns c = payload_laws
