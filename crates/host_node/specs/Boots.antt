-- What a boot of the host finds in its cells.
use Rattle.std.specs.Prelude.{ℕ, ◌<◌, ◌≤◌, Option, IfSome}
use Rattle.bench_base.specs.declared.sizes.TheConstants.{MOST_COMMITS}
use Rattle.nv_store.specs.Slot.{Held}
use Rattle.nv_store.specs.Store.{count_of}
use Rattle.row_node.specs.Kept.{IsFilled}
use Rattle.host_jobs.specs.declared.rows.JobRow.{JobRow}
use Rattle.host_jobs.specs.Rows.{Jobs, row_in}
use Rattle.host_jobs.specs.Soundness.{IsJobAt}
use Rattle.host_node.specs.Payloads.{IsPayloadOf}

-- cell k holds this job, or nothing
pub record JobRead (held : ℕ → Option Held) (k : ℕ) (o : Option JobRow) : Type 0 where
  pub filled : IsFilled (IsPayloadOf k) o (held k)
  pub own : IfSome o (IsJobAt k)
  pub few : count_of (held k) ≤ MOST_COMMITS

-- so the first cells
abbrev pub JobsRead : (ℕ → Option Held) → ℕ → Jobs → Type 0
JobsRead held n rows = (k : ℕ) → k < n → JobRead held k (row_in rows k)
