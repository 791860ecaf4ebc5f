-- What is seen of the host: of each of its 1,024 cells nothing, or how many commits it has and its row. Job j lies in cell
-- (j - 1) mod 1,024.
use Rattle.std.specs.Prelude.{◌≡◌, ℕ, ◌≤◌, length, map}
use Rattle.bench_base.specs.declared.sizes.TheConstants.{MOST_COMMITS}
use Rattle.node_acts.specs.Views.{Counting}
use Rattle.node_acts.specs.RowList.{RowList, row_at, row_of, commits_at, counting_by}
use Rattle.bench_base.specs.Jobs as jobs
use Rattle.host_jobs.specs.declared.{rows.JobRow.JobRow, sizes.TheConstants.HOST_CELLS}
use Rattle.host_jobs.specs.Rows.{Jobs}
use Rattle.host_jobs.specs.Soundness.{AreSound}

abbrev pub Seen : Type 0
Seen = RowList JobRow

abbrev pub cell_of : JobRow → ℕ
cell_of r = jobs.cell_of r.job

abbrev pub counting : Counting Seen JobRow
counting = counting_by cell_of (λ r. r)

-- the rows, without their counts
abbrev pub rows_in : Seen → Jobs
rows_in s = map row_of s

-- a record that storage can show: of so many cells, none with more commits than it can count, and jobs that are sound, also together
pub record IsKnown (s : Seen) : Type 0 where
  pub long : length s ≡ HOST_CELLS
  pub few : (k : ℕ) → commits_at (row_at s k) ≤ MOST_COMMITS
  pub sound : AreSound (rows_in s)
