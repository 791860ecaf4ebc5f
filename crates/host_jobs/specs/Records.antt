-- The rows of the host's cells after a list of commits, the newest first.
use Rattle.std.specs.Prelude.{ℕ, ◌+◌, List, [], ◌∷◌, Option, Some, None, option_map, if◌then◌else◌}
use Rattle.bench_base.specs.declared.{words.JobState.JobState, ledger.Commit.Commit, ledger.Commit.TheVariants.Ordered, ledger.Commit.TheVariants.Held, ledger.Commit.TheVariants.Began, ledger.Commit.TheVariants.Closed}
use Rattle.bench_base.specs.Cells.{OfJob, same_place, place_of, commits_at}
use Rattle.bench_base.specs.Jobs.{Job, job_of, state_of, held_of, top}
use Rattle.node_acts.specs.RowList.{RowList, listed}
use Rattle.host_jobs.specs.declared.{rows.JobRow.JobRow, sizes.TheConstants.HOST_CELLS}
use Rattle.host_jobs.specs.Rows.{Jobs}

-- the tops of devices 1 to 8
abbrev pub tops_after : List Commit → List ℕ
tops_after C = listed 8 (λ i. top (i + 1) C)

-- the row of a job, with what was ordered and how far it came
abbrev pub record_by : ℕ → List Commit → Option Job → Option JobState → Option JobRow
record_by j C (Some b) (Some s) = Some (record {
  job = j;
  device = b.device;
  piece = b.piece;
  postage = b.postage;
  class = b.class;
  state = s;
  tops = tops_after C;
  indicium = held_of j C;
})
record_by j C _ _ = None

-- the row of a job after these commits
abbrev pub record_of : ℕ → List Commit → Option JobRow
record_of j C = record_by j C (job_of j C) (state_of j C)

-- the job of a commit, 0 where it is another node's
abbrev pub job_no : Commit → ℕ
job_no (Ordered j d piece postage class) = j
job_no (Held j mark) = j
job_no (Began j) = j
job_no (Closed j) = j
job_no _ = 0

-- the row in cell k: the last commit that lies in it wrote it, with the tops as they were then
abbrev pub cell_row : ℕ → List Commit → Option JobRow
cell_row k [] = None
cell_row k (c ∷ C) = if same_place (place_of c) (OfJob k) then record_of (job_no c) (c ∷ C) else cell_row k C

abbrev pub rows_after : List Commit → Jobs
rows_after C = listed HOST_CELLS (λ k. cell_row k C)

-- the same with the number of commits of each cell
abbrev pub cell_after : ℕ → List Commit → Option (ℕ × JobRow)
cell_after k C = option_map (λ r. (commits_at (OfJob k) C, r)) (cell_row k C)

abbrev pub seen_after : List Commit → RowList JobRow
seen_after C = listed HOST_CELLS (λ k. cell_after k C)
