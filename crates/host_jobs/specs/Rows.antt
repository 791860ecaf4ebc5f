-- The rows of the host's cells: what each has, and what they show together.
use Rattle.std.specs.Prelude.{ℕ, ◌+◌, ◌-◌, ◌%◌, Bool, true, false, ◌&&◌, List, [], ◌∷◌, Option, Some, None, option_map, get_or, set, max, ◌==◌, if◌then◌else◌}
use Rattle.bench_base.specs.declared.words.JobState.{JobState}
use Rattle.bench_base.specs.declared.words.JobState.TheVariants as state
use Rattle.bench_base.specs.Rows.{first_of}
use Rattle.bench_base.specs.Jobs.{Job, cell_of, unless_job}
use Rattle.node_acts.specs.RowList.{listed}
use Rattle.host_jobs.specs.declared.{rows.JobRow.JobRow, kept.Kept.Kept, sizes.TheConstants.HOST_CELLS}

-- == one row ==

-- what was ordered
abbrev pub job_in : JobRow → Job
job_in r = record { device = r.device; piece = r.piece; postage = r.postage; class = r.class }

abbrev pub state_in : Option JobRow → Option JobState
state_in o = option_map (λ r. r.state) o

abbrev pub number_in : Option JobRow → ℕ
number_in None = 0
number_in (Some r) = r.job

-- the top of device d in a row
abbrev pub top_at : ℕ → Option JobRow → ℕ
top_at d None = 0
top_at d (Some r) = get_or r.tops (d - 1) 0

abbrev pub is_ordered : JobState → Bool
is_ordered state.Ordered = true
is_ordered state.Held = false
is_ordered state.Begun = false
is_ordered state.Closed = false

-- the number of a job of device d that waits for its mark
abbrev pub waiting : ℕ → Option JobRow → Option ℕ
waiting d None = None
waiting d (Some r) = if is_ordered r.state && (r.device == d) then Some r.job else None

-- == all rows ==

-- a place for each cell
abbrev pub Jobs : Type 0
Jobs = List (Option JobRow)

-- before anything is ordered
abbrev pub no_jobs : Jobs
no_jobs = listed HOST_CELLS (λ k. None)

abbrev pub row_in : Jobs → ℕ → Option JobRow
row_in rows k = get_or rows k None

-- the row takes the place of what was in its cell
abbrev pub put_row : Jobs → JobRow → Jobs
put_row rows r = set rows (cell_of r.job) (Some r)

-- the row, if it is of this job
abbrev pub if_job : ℕ → Option JobRow → Option JobRow
if_job j None = None
if_job j (Some r) = if r.job == j then Some r else None

-- the row of a job, where its cell holds that job
abbrev pub job_row : Jobs → ℕ → Option JobRow
job_row rows j = if_job j (row_in rows (cell_of j))

abbrev pub greatest : {A : Type 0} → (A → ℕ) → List A → ℕ
greatest f [] = 0
greatest f (x ∷ xs) = max (f x) (greatest f xs)

abbrev pub first_found : {A B : Type 0} → (A → Option B) → List A → Option B
first_found f [] = None
first_found f (x ∷ xs) = first_of (f x) (first_found f xs)

-- the last job; 0 if there is no job
abbrev pub last_in : Jobs → ℕ
last_in rows = greatest number_in rows

-- the greatest piece of device d that was ever held
abbrev pub top_in : ℕ → Jobs → ℕ
top_in d rows = greatest (top_at d) rows

-- the job of device d that waits for its mark
abbrev pub open_in : ℕ → Jobs → Option ℕ
open_in d rows = first_found (waiting d) rows

-- so of devices 1 to 8
abbrev pub tops_in : Jobs → List ℕ
tops_in rows = listed 8 (λ i. top_in (i + 1) rows)

abbrev pub opens_in : Jobs → List (Option ℕ)
opens_in rows = listed 8 (λ i. open_in (i + 1) rows)

-- the state of the job in the cell of the next one
abbrev pub oldest_in : Jobs → Option JobState
oldest_in rows = state_in (row_in rows (last_in rows % 1024))

-- what is kept of the rows, so that no call walks them
abbrev pub kept_of : Jobs → Kept
kept_of rows = record { last = last_in rows; open_jobs = opens_in rows; tops = tops_in rows }

-- and how it changes with the row that is written next
abbrev pub opened_by : JobRow → Option ℕ → Option ℕ
opened_by r open_job = if is_ordered r.state then Some r.job else unless_job r.job open_job

abbrev pub kept_after : Kept → JobRow → Kept
kept_after kept r = record {
  last = max kept.last r.job;
  open_jobs = set kept.open_jobs (r.device - 1) (opened_by r (get_or kept.open_jobs (r.device - 1) None));
  tops = r.tops;
}
