-- What holds of each row that the host keeps, and of all of them together. Postage is in mills.
use Rattle.std.specs.Prelude.{◌≡◌, ℕ, ◌+◌, ◌-◌, ◌<◌, ◌≤◌, ◌⊎◌, true, List, length, get_or, Option, Some, None, IfSome, IsSome}
use Rattle.bench_base.specs.declared.words.JobState.{JobState}
use Rattle.bench_base.specs.declared.words.JobState.TheVariants as state
use Rattle.bench_base.specs.Ranges.{IsDevice, IsPostage}
use Rattle.bench_base.specs.Jobs.{cell_of}
use Rattle.host_jobs.specs.declared.{rows.JobRow.JobRow, kept.Kept.Kept, sizes.TheConstants.HOST_CELLS}
use Rattle.host_jobs.specs.Order.{IsMarkOf}
use Rattle.host_jobs.specs.Rows.{Jobs, job_in, is_ordered, waiting, row_in, put_row, job_row, last_in, top_in, kept_of}

-- == one row ==

-- a job that is ordered has no mark, one that is held or begun has one, and one that is closed may have one
abbrev pub IsMarked : JobState → Option (List ℕ) → Type 0
IsMarked state.Ordered None = Unit {0}
IsMarked state.Ordered (Some x) = ⊥
IsMarked state.Held None = ⊥
IsMarked state.Held (Some x) = Unit {0}
IsMarked state.Begun None = ⊥
IsMarked state.Begun (Some x) = Unit {0}
IsMarked state.Closed o = Unit {0}

-- the mark is one of the job, and its piece counts for the top of its device
pub record Holds (r : JobRow) (x : List ℕ) : Type 0 where
  pub mark : ∥ IsMarkOf (job_in r) x ∥₁
  pub top : r.piece ≤ get_or r.tops (r.device - 1) 0

pub record IsSoundJob (r : JobRow) : Type 0 where
  pub job : 1 ≤ r.job
  pub device : IsDevice r.device
  pub piece : 1 ≤ r.piece
  pub postage : IsPostage r.postage
  pub tops : length r.tops ≡ 8
  pub marked : IsMarked r.state r.indicium
  pub holds : IfSome r.indicium (Holds r)

-- == all rows ==

-- the row of cell k
pub record IsJobAt (k : ℕ) (r : JobRow) : Type 0 where
  pub cell : cell_of r.job ≡ k
  pub sound : IsSoundJob r

-- there is a place for each cell, and each row is sound and in its own
pub record ArePlaced (rows : Jobs) : Type 0 where
  pub long : length rows ≡ HOST_CELLS
  pub each : (k : ℕ) → IfSome (row_in rows k) (IsJobAt k)

-- a job that waits for its mark is for a piece above all that were held
abbrev pub IsFresh : Jobs → JobRow → Type 0
IsFresh rows r = is_ordered r.state ≡ true → top_in r.device rows < r.piece

-- the last 1,024 jobs are all there
abbrev pub AreGapless : Jobs → Type 0
AreGapless rows = (j : ℕ) → 1 ≤ j → j ≤ last_in rows → last_in rows < j + 1024 → IsSome (job_row rows j)

-- no two jobs of a device wait for a mark
abbrev pub WaitOnce : Jobs → Type 0
WaitOnce rows = (d i k : ℕ) → IsSome (waiting d (row_in rows i)) → IsSome (waiting d (row_in rows k)) → i ≡ k

abbrev pub AreFresh : Jobs → Type 0
AreFresh rows = (k : ℕ) → IfSome (row_in rows k) (IsFresh rows)

-- the rows agree
pub record AreJoined (rows : Jobs) : Type 0 where
  pub gapless : AreGapless rows
  pub once : WaitOnce rows
  pub fresh : AreFresh rows

pub record AreSound (rows : Jobs) : Type 0 where
  pub placed : ArePlaced rows
  pub joined : AreJoined rows

-- the rows are sound, and what is kept is theirs
pub record IsDerived (rows : Jobs) (kept : Kept) : Type 0 where
  pub sound : AreSound rows
  pub is : kept ≡ kept_of rows

-- == the row that is written next ==

-- it comes after what was in its cell: the same job, or one that is closed
abbrev pub Comes : JobRow → JobRow → Type 0
Comes x old = ((old.job ≡ x.job) × (old.device ≡ x.device)) ⊎ ((old.state ≡ state.Closed) × (old.job ≤ x.job))

-- the rows are sound with it, and it has the tops of all of them
pub record IsNext (rows : Jobs) (x : JobRow) : Type 0 where
  pub sound : AreSound (put_row rows x)
  pub tops : (d : ℕ) → IsDevice d → top_in d rows ≤ get_or x.tops (d - 1) 0
  pub comes : IfSome (row_in rows (cell_of x.job)) (Comes x)
