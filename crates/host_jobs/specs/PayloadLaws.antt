-- Payloads determine their jobs.
use Rattle.std.specs.Prelude.{◌≡◌, ℕ, List, length}
use Rattle.host_jobs.specs.declared.rows.JobRow.{JobRow}
use Rattle.host_jobs.specs.Soundness.{IsSoundJob}
use Rattle.host_jobs.specs.Payload.{job_bytes, JobFits, JobReadsAs}

pub record PayloadLaws : Type 0 where
  -- a payload reads as one job at most
  pub one : (payload : List ℕ) (r s : JobRow) → JobReadsAs payload r → JobReadsAs payload s → r ≡ s
  -- what is written reads as the job
  pub written : (r : JobRow) → IsSoundJob r → JobFits r → JobReadsAs (job_bytes r) r
  -- what reads as a job has 115 bytes
  pub long : (payload : List ℕ) (r : JobRow) → JobReadsAs payload r → length payload ≡ 115
