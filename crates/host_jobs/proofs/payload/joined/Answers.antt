use Rattle.host_jobs.proofs.JobBytes.{laid}
use Rattle.host_jobs.proofs.payload.joined.Goals as goal

pub returns : goal.returns
returns c = laid _ _ _ _ _ _ c.told-head c.told-tops c.told-mark c.put.ensures c.put-2.ensures c.put-3.ensures
