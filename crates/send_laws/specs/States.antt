-- Open jobs by the states of all jobs.
use Rattle.std.specs.Prelude.{◌≡◌, ◌↔◌, ℕ, List, Some}
use Rattle.bench_base.specs.declared.words.JobState.TheVariants as state
use Rattle.bench_base.specs.declared.ledger.Commit.{Commit}
use Rattle.bench_base.specs.Jobs.{Job, job_of, state_of, open_job}

-- the job is one of the device, and its last commit is that it was ordered
pub record IsOrderedFor (d j : ℕ) (C : List Commit) : Type 0 where
  pub at : Job
  pub job_is : job_of j C ≡ Some at
  pub device_is : at.device ≡ d
  pub state_is : state_of j C ≡ Some state.Ordered

-- A JOB OF A DEVICE IS OPEN if and only if its state is Ordered
abbrev pub OpenByStates : List Commit → Type 0
OpenByStates C = (d j : ℕ) → (open_job d C ≡ Some j) ↔ IsOrderedFor d j C
