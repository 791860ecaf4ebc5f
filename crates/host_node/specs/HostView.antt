-- What contracts see of the host and of its calls.
use Rattle.std.specs.Prelude.{Option, Result}
use Rattle.bench_base.specs.declared.{ledger.Commit.Commit, refusals.HostRefusal.HostRefusal, refusals.Fail.Fail}
use Rattle.nv_model.specs.declared.nv.Nv.{Ghosts}
use Rattle.host_jobs.specs.Acts.{HostAct}
use Rattle.host_jobs.specs.Rows.{Jobs}
use Rattle.host_jobs.specs.Seen.{Seen, rows_in}
use Rattle.row_node.specs.RunningView as running
use Rattle.host_node.specs.declared.host.Host.{Host}

module _ {N : Type 0} {g : Ghosts N} where
  -- its storage
  abbrev pub storage_of : Host N g → N
  storage_of h = running.storage_of h.rows

  -- its jobs, with the commits of each cell
  abbrev pub seen_of : Host N g → Seen
  seen_of h = running.seen_of h.rows

  -- its jobs
  abbrev pub rows_of : Host N g → Jobs
  rows_of h = rows_in (seen_of h)

  -- the commit of it that failed
  abbrev pub torn_of : Host N g → Option Commit
  torn_of h = running.torn_of h.rows

  -- what starts: it shows what its storage shows
  abbrev pub Starts : Host N g → Type 0
  Starts h = running.Starts h.rows

  -- the job that the act commits, if it commits, is one that may be written next
  abbrev pub CanCommit : {A : Type 0} → HostAct A → Host N g → Type 0
  CanCommit act h = running.CanCommit act h.rows

  -- what a call of this act did, answered and left
  abbrev pub Performs : {A : Type 0} → HostAct A → Host N g → Host N g → Result A (Fail HostRefusal) → Type 0
  Performs act old new result = running.Performs act old.rows new.rows result
