-- The 115 bytes of a job.
use Rattle.std.specs.Prelude.{◌≡◌, ℕ, List, [], ◌∷◌, ◌++◌, Option, Some, None, replicate}
use Rattle.bench_base.specs.declared.words.JobState.{JobState}
use Rattle.bench_base.specs.declared.words.JobState.TheVariants as state
use Rattle.bench_base.specs.Table.{Size, One, Two, Four, row, Fit}
use Rattle.host_jobs.specs.declared.rows.JobRow.{JobRow}
use Rattle.host_jobs.specs.Soundness.{IsSoundJob}

abbrev pub state_byte : JobState → ℕ
state_byte state.Ordered = 1
state_byte state.Held = 2
state_byte state.Begun = 3
state_byte state.Closed = 4

-- job, device, piece, postage, class, state
abbrev pub head_table : List Size
head_table = Four ∷ Four ∷ Four ∷ Four ∷ Two ∷ One ∷ []

abbrev pub head : JobRow → List ℕ
head r = r.job ∷ r.device ∷ r.piece ∷ r.postage ∷ r.class ∷ state_byte r.state ∷ []

-- the tops of devices 1 to 8
abbrev pub tops_table : List Size
tops_table = Four ∷ Four ∷ Four ∷ Four ∷ Four ∷ Four ∷ Four ∷ Four ∷ []

unfoldable pub head_part : JobRow → List ℕ
head_part r = row head_table (head r)

unfoldable pub tops_part : JobRow → List ℕ
tops_part r = row tops_table r.tops

-- the mark; zeros if there is no mark
unfoldable pub mark_part : Option (List ℕ) → List ℕ
mark_part None = replicate 64 0
mark_part (Some x) = x

-- the one spelling of a job
unfoldable pub job_bytes : JobRow → List ℕ
job_bytes r = head_part r ++ (tops_part r ++ mark_part r.indicium)

-- its numbers fit their fields
pub record JobFits (r : JobRow) : Type 0 where
  pub head : Fit head_table (head r)
  pub tops : Fit tops_table r.tops

-- THE PAYLOAD READS AS THE JOB: it is its spelling
pub record JobReadsAs (payload : List ℕ) (r : JobRow) : Type 0 where
  pub sound : IsSoundJob r
  pub fits : JobFits r
  pub reads : job_bytes r ≡ payload
