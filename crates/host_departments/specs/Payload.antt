-- The 12 bytes of a cell: three numbers.
use Rattle.std.specs.Prelude.{◌<◌, ◌≤◌, ℕ, ◌+◌, List, [], ◌∷◌, get_or, Option, Some, None, ◌==◌, ◌&&◌, nat_lt, nat_le, if◌then◌else◌}
use Rattle.bench_base.specs.Ranges.{IsPostage}
use Rattle.bench_base.specs.Table.{Size, Four, row, values}
use Rattle.host_departments.specs.Rows.{department_of}
use Rattle.host_departments.specs.declared.{row.DepartmentRow.DepartmentRow, row.DepartmentRow.TheVariants.Quota, row.DepartmentRow.TheVariants.Job, row.TheConstants.MOST_POSTAGE}

abbrev pub cell_table : List Size
cell_table = Four ∷ Four ∷ Four ∷ []

unfoldable pub cell_bytes : ℕ → ℕ → ℕ → List ℕ
cell_bytes a b c = row cell_table (a ∷ b ∷ c ∷ [])

-- the 12 bytes that are written for a row in cell k
abbrev pub spelled : ℕ → DepartmentRow → List ℕ
spelled k (Quota q) = cell_bytes (k + 1) q 0
spelled k (Job j p) = cell_bytes j (department_of k) p

-- cell k of the first 16: its department, the quota, and zeros
unfoldable pub quota_from : ℕ → List ℕ → Option DepartmentRow
quota_from k vs = if get_or vs 0 0 == k + 1 then (if get_or vs 2 0 == 0 then Some (Quota (get_or vs 1 0)) else None) else None

-- each other cell: a job, its department, and its postage
unfoldable pub job_from : ℕ → List ℕ → Option DepartmentRow
job_from k vs =
    if get_or vs 1 0 == department_of k
    then (if nat_le 1 (get_or vs 0 0) && (nat_le 1 (get_or vs 2 0) && nat_le (get_or vs 2 0) MOST_POSTAGE)
    then Some (Job (get_or vs 0 0) (get_or vs 2 0)) else None)
    else None

abbrev pub row_from : ℕ → List ℕ → Option DepartmentRow
row_from k vs = if nat_lt k 16 then quota_from k vs else job_from k vs

-- the row that the payload of cell k reads as, if it reads as one
unfoldable pub decoded : ℕ → List ℕ → Option DepartmentRow
decoded k payload = row_from k (values 0 cell_table payload)

-- cell k may keep it
abbrev pub IsFit : ℕ → DepartmentRow → Type 0
IsFit k (Quota q) = k < 16
IsFit k (Job j p) = (16 ≤ k) × (1 ≤ j) × IsPostage p
