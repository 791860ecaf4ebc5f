-- The quotas and jobs that are kept, by their cells.
use Rattle.std.specs.Prelude.{◌≡◌, ◌≢◌, ◌<◌, ◌≤◌, ℕ, zero, suc, ◌+◌, ◌-◌, ◌*◌, ◌/◌, length, Option, Some, None, IsSome}
use Rattle.node_acts.specs.RowList.{RowList, row_at, row_of}
use Rattle.host_departments.specs.declared.{row.DepartmentRow.DepartmentRow, row.DepartmentRow.TheVariants.Quota, row.DepartmentRow.TheVariants.Job, row.TheConstants.CELLS}

abbrev pub Rows : Type 0
Rows = RowList DepartmentRow

-- what cell k keeps
abbrev pub row_in : Rows → ℕ → Option DepartmentRow
row_in rows k = row_of (row_at rows k)

abbrev pub IsDepartment : ℕ → Type 0
IsDepartment d = (1 ≤ d) × (d ≤ 16)

-- == cells ==

-- the quota of department d lies in cell d - 1, and its jobs in 64 cells from this one
abbrev pub first_cell : ℕ → ℕ
first_cell d = 16 + 64 * (d - 1)

-- the department of the job that cell k keeps
abbrev pub department_of : ℕ → ℕ
department_of k = (k - 16) / 64 + 1

-- == quotas ==

abbrev pub quota_in : Option DepartmentRow → Option ℕ
quota_in None = None
quota_in (Some (Quota q)) = Some q
quota_in (Some (Job j p)) = None

-- the quota of department d, if one was set
abbrev pub quota : Rows → ℕ → Option ℕ
quota rows d = quota_in (row_in rows (d - 1))

abbrev pub or_zero : Option ℕ → ℕ
or_zero None = 0
or_zero (Some q) = q

-- == jobs ==

abbrev pub job_in : Option DepartmentRow → Option ℕ
job_in None = None
job_in (Some (Quota q)) = None
job_in (Some (Job j p)) = Some j

abbrev pub postage_in : Option DepartmentRow → ℕ
postage_in None = 0
postage_in (Some (Quota q)) = 0
postage_in (Some (Job j p)) = p

-- cell k keeps job j
abbrev pub Keeps : Rows → ℕ → ℕ → Type 0
Keeps rows k j = job_in (row_in rows k) ≡ Some j

-- department d has job j
pub record Has (rows : Rows) (d j : ℕ) : Type 0 where
  pub place : ℕ
  pub inside : place < 64
  pub kept : Keeps rows (first_cell d + place) j

-- another department has the job
pub record AnotherHas (rows : Rows) (d j : ℕ) : Type 0 where
  pub other : ℕ
  pub department : IsDepartment other
  pub differs : other ≢ d
  pub has : Has rows other j

-- a department has the job
pub record IsAssigned (rows : Rows) (j : ℕ) : Type 0 where
  pub department : ℕ
  pub is : IsDepartment department
  pub has : Has rows department j

-- department d has n jobs, in the first n of its cells
pub record HasJobs (rows : Rows) (d n : ℕ) : Type 0 where
  pub few : n ≤ 64
  pub filled : (i : ℕ) → i < n → IsSome (row_in rows (first_cell d + i))
  pub blank : n < 64 → row_in rows (first_cell d + n) ≡ None

-- == sums ==

-- the sum of the first n
unfoldable pub sum_to : ℕ → (ℕ → ℕ) → ℕ
sum_to zero f = 0
sum_to (suc n) f = sum_to n f + f n

abbrev pub postage_at : Rows → ℕ → ℕ → ℕ
postage_at rows d i = postage_in (row_in rows (first_cell d + i))

-- what department d has spent: the postage of its jobs
abbrev pub spent : Rows → ℕ → ℕ
spent rows d = sum_to 64 (postage_at rows d)

-- == rows that agree ==

-- the jobs of department d are filled in order
abbrev pub AreInOrder : Rows → ℕ → Type 0
AreInOrder rows d = (i : ℕ) → i + 1 < 64 → IsSome (row_in rows (first_cell d + (i + 1))) → IsSome (row_in rows (first_cell d + i))

-- so they are, and their postage is at most the quota: without a quota it is 0, so that there is no job
abbrev pub IsSoundAt : Rows → ℕ → Type 0
IsSoundAt rows d = AreInOrder rows d × (spent rows d ≤ or_zero (quota rows d))

-- Each department's jobs are filled in order, and their postage is within its quota; and a job is in one cell.
pub record IsSound (rows : Rows) : Type 0 where
  pub each : (d : ℕ) → IsDepartment d → IsSoundAt rows d
  pub once : (j k l : ℕ) → Keeps rows k j → Keeps rows l j → k ≡ l

-- THE ROWS OF DEPARTMENTS, whoever keeps them: they have 1,040 cells and agree, and jobs are kept after the quotas.
pub record Agree (rows : Rows) : Type 0 where
  pub cells : length rows ≡ CELLS
  pub jobs : (k j : ℕ) → Keeps rows k j → 16 ≤ k
  pub sound : IsSound rows
