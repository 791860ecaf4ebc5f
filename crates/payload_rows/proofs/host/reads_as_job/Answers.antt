use Rattle.host_jobs.proofs.JobBytes.{one_job}
use Rattle.payload_rows.proofs.host.reads_as_job.Goals as goal

pub returns-in-Some-clause-no : goal.returns-in-Some-clause-no
returns-in-Some-clause-no c is reads =
    c.same_job.ensures.no is (one_job c.args.payload.now c.in-Some.found c.args.due.now c.in-Some.ensures.found.1 reads)
