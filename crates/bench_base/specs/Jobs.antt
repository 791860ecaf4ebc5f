-- What the commits show of the host: its jobs, their states, and the greatest piece of each device that was held.
use Rattle.std.specs.Prelude.{ℕ, ◌+◌, ◌-◌, ◌%◌, Bool, true, false, ◌&&◌, List, [], ◌∷◌, Option, Some, None, ◌==◌, nat_lt, nat_le, max, if◌then◌else◌}
use Rattle.bench_base.specs.declared.{words.JobState.JobState, ledger.Commit.Commit, ledger.Commit.TheVariants.Ordered, ledger.Commit.TheVariants.Held, ledger.Commit.TheVariants.Began, ledger.Commit.TheVariants.Closed}
use Rattle.bench_base.specs.declared.words.JobState.TheVariants as state
use Rattle.bench_base.specs.Rows.{first_of}

-- what was ordered: the device that is to frank, the piece, the postage in mills, and the class
pub record Job : Type 0 where
  pub device : ℕ
  pub piece : ℕ
  pub postage : ℕ
  pub class : ℕ

-- the last job: jobs are numbered from 1, so it is the number of the Ordered
abbrev pub last_job : List Commit → ℕ
last_job [] = 0
last_job (Ordered j d piece postage class ∷ C) = last_job C + 1
last_job (_ ∷ C) = last_job C

-- what the first Ordered of the job says
abbrev pub job_of : ℕ → List Commit → Option Job
job_of j [] = None
job_of j (Ordered i d p a k ∷ C) = if i == j then first_of (job_of j C) (Some (record { device = d; piece = p; postage = a; class = k })) else job_of j C
job_of j (_ ∷ C) = job_of j C

-- the mark in the first Held of the job
abbrev pub held_of : ℕ → List Commit → Option (List ℕ)
held_of j [] = None
held_of j (Held i mark ∷ C) = if i == j then first_of (held_of j C) (Some mark) else held_of j C
held_of j (_ ∷ C) = held_of j C

-- there is a Began of the job
abbrev pub begun : ℕ → List Commit → Bool
begun j [] = false
begun j (Began i ∷ C) = if i == j then true else begun j C
begun j (_ ∷ C) = begun j C

-- a job's state is that of its last commit
abbrev pub state_of : ℕ → List Commit → Option JobState
state_of j [] = None
state_of j (Ordered i d piece postage class ∷ C) = if i == j then Some state.Ordered else state_of j C
state_of j (Held i mark ∷ C) = if i == j then Some state.Held else state_of j C
state_of j (Began i ∷ C) = if i == j then Some state.Begun else state_of j C
state_of j (Closed i ∷ C) = if i == j then Some state.Closed else state_of j C
state_of j (_ ∷ C) = state_of j C

-- the job that was open, if it isn't this one
abbrev pub unless_job : ℕ → Option ℕ → Option ℕ
unless_job i None = None
unless_job i (Some j) = if j == i then None else Some j

-- the job of the device that is ordered and neither held nor closed
abbrev pub open_job : ℕ → List Commit → Option ℕ
open_job d [] = None
open_job d (Ordered i e piece postage class ∷ C) = if e == d then Some i else open_job d C
open_job d (Held i mark ∷ C) = unless_job i (open_job d C)
open_job d (Closed i ∷ C) = unless_job i (open_job d C)
open_job d (_ ∷ C) = open_job d C

-- the piece of a job that is one of the device
abbrev pub piece_at : ℕ → Option Job → ℕ
piece_at d None = 0
piece_at d (Some job) = if job.device == d then job.piece else 0

-- the top of a device: the greatest piece of its jobs that have a Held, and 0 where none has
abbrev pub top : ℕ → List Commit → ℕ
top d [] = 0
top d (Held j mark ∷ C) = max (piece_at d (job_of j C)) (top d C)
top d (_ ∷ C) = top d C

-- the cell that keeps a job
abbrev pub cell_of : ℕ → ℕ
cell_of j = (j - 1) % 1024

-- a cell holds the job: it is one of the last 1,024
abbrev pub in_cells : ℕ → List Commit → Bool
in_cells j C = nat_le 1 j && (nat_le j (last_job C) && nat_lt (last_job C) (j + 1024))
