-- What is promised of departments, by a ledger.
use Rattle.std.specs.Prelude.{◌≡◌, ℕ, ◌+◌, List, Option, Some, None, Contains}
use Rattle.bench_base.specs.declared.{ledger.Commit.Commit, ledger.Commit.TheVariants.Ordered}
use Rattle.bench_base.specs.Ledger.{Ledger, counted}
use Rattle.send_laws.specs.Orders.{ordered_postage}
use Rattle.host_departments.specs.Rows.{Rows, row_in, first_cell, IsDepartment, sum_to, or_zero, spent}
use Rattle.host_departments.specs.declared.{row.DepartmentRow.DepartmentRow, row.DepartmentRow.TheVariants.Quota, row.DepartmentRow.TheVariants.Job}

-- THE PREMISE ON JOBS OF EARLIER RUNS, by what they left: each job that is kept has an Ordered with the same postage in the commits that count
abbrev pub AreBacked : Rows → Ledger → Type 0
AreBacked rows H = (k j p : ℕ) → row_in rows k ≡ Some (Job j p) → ordered_postage j (counted H) ≡ Some p

-- the postage in the Ordered of the job that a cell keeps
abbrev pub ordered_at : List Commit → Option DepartmentRow → ℕ
ordered_at C None = 0
ordered_at C (Some (Quota q)) = 0
ordered_at C (Some (Job j p)) = or_zero (ordered_postage j C)

-- the sum of the postage in the Ordered of the jobs that department d has
abbrev pub ordered : List Commit → Rows → ℕ → ℕ
ordered C rows d = sum_to 64 (λ i. ordered_at C (row_in rows (first_cell d + i)))

-- WHAT IS PROMISED: what a department has spent is the postage that was ordered for its jobs; a job has no Ordered with other postage; and each has one.
-- This is a premise of the next run, so it holds after that run too.
pub record DepartmentsHold (rows : Rows) (H : Ledger) : Type 0 where
  pub spent : (d : ℕ) → IsDepartment d → spent rows d ≡ ordered (counted H) rows d
  pub only : (k j p : ℕ) → row_in rows k ≡ Some (Job j p) → (d piece a class : ℕ) → Contains (counted H) (Ordered j d piece a class) → a ≡ p
  pub backed : AreBacked rows H
