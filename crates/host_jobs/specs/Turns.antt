-- The order of the commits that the host's own calls make, the newest first: that of `Order`, and what the refusals of
-- each call leave.
use Rattle.std.specs.Prelude.{◌≡◌, ℕ, ◌+◌, ◌-◌, ◌<◌, ◌≤◌, true, List, [], ◌∷◌, Some, None}
use Rattle.bench_base.specs.declared.words.JobState.TheVariants as state
use Rattle.bench_base.specs.declared.{ledger.Commit.Commit, ledger.Commit.TheVariants.Ordered, ledger.Commit.TheVariants.Held, ledger.Commit.TheVariants.Began, ledger.Commit.TheVariants.Closed}
use Rattle.bench_base.specs.Jobs.{Job, last_job, job_of, state_of, open_job, top}
use Rattle.host_jobs.specs.Answers.{is_open}
use Rattle.host_jobs.specs.Order.{IsMarkOf}

-- a piece is ordered that is above all that were held, of a device without an open job, where the cell of the new job is free
pub record IsOrder (j d piece : ℕ) (C : List Commit) : Type 0 where
  pub next : j ≡ last_job C + 1
  pub idle : open_job d C ≡ None
  pub fresh : top d C < piece
  pub room : 1024 ≤ last_job C → state_of (last_job C - 1023) C ≡ Some state.Closed

-- the open job of a device takes a mark of its own
pub record IsHold (j : ℕ) (bytes : List ℕ) (C : List Commit) : Type 0 where
  pub at : Job
  pub job_is : job_of j C ≡ Some at
  pub open_is : open_job at.device C ≡ Some j
  pub mark : IsMarkOf at bytes

abbrev pub Follows : Commit → List Commit → Type 0
Follows (Ordered j d piece postage class) C = IsOrder j d piece C
Follows (Held j mark) C = IsHold j mark C
Follows (Began j) C = state_of j C ≡ Some state.Held
Follows (Closed j) C = is_open (state_of j C) ≡ true
Follows _ C = Unit {0}

-- each commit comes after those before it as a call of the host makes it
abbrev pub InTurn : List Commit → Type 0
InTurn [] = Unit {0}
InTurn (c ∷ C) = Follows c C × InTurn C
