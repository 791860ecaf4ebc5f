-- The record of the host, as the bench sees the host.
use Rattle.std.specs.Prelude.{◌≡◌, ℕ, ◌≤◌, length}
use Rattle.bench_base.specs.declared.sizes.TheConstants.{MOST_COMMITS}
use Rattle.bench_base.specs.Ranges.{IsDevice}
use Rattle.node_acts.specs.declared.asked.Asked.{Asked}
use Rattle.node_acts.specs.RowList.{RowList, row_at, commits_at, commits_in}
use Rattle.node_acts.specs.Kinds.{OfCall}
use Rattle.host_jobs.specs.declared.{rows.JobRow.JobRow, sizes.TheConstants.HOST_CELLS}
use Rattle.host_jobs.specs.ActLaws.{IsPrice}
use Rattle.host_jobs.specs.Rows.{Jobs}
use Rattle.host_jobs.specs.Seen.{Seen, rows_in}
use Rattle.host_jobs.specs.Soundness.{IsNext}
use Rattle.bench_abstraction.specs.declared.calls.HostCall.{HostCall}
use Rattle.bench_abstraction.specs.declared.calls.HostCall.TheVariants as call

-- the jobs are those of the cells, which are counted
pub record AreJoined (cells : RowList JobRow) (jobs : Jobs) (total : ℕ) : Type 0 where
  pub long : length cells ≡ HOST_CELLS
  pub jobs_are : jobs ≡ rows_in cells
  pub total_is : total ≡ commits_in cells
  pub few : (k : ℕ) → commits_at (row_at cells k) ≤ MOST_COMMITS

-- the job is one that may be written next
abbrev pub IsFit : Seen → JobRow → Type 0
IsFit s x = IsNext (rows_in s) x

-- the call that prints job j
abbrev pub printing : ℕ → HostCall
printing j = call.Print (record { job = j })

-- the numbers of a call, as an event contains them
abbrev pub IsRanged : HostCall → Type 0
IsRanged (call.Order c) = IsDevice c.device × IsPrice c.price
IsRanged (call.Send c) = Unit {0}
IsRanged (call.Print c) = Unit {0}
IsRanged (call.Close c) = Unit {0}
IsRanged (call.Take c) = Unit {0}

abbrev pub IsRangedAsked : Asked HostCall → Type 0
IsRangedAsked = OfCall IsRanged
