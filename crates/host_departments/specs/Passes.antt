-- Which lines are left to the bench.
use Rattle.std.specs.Prelude.{ℕ, List}
use Rattle.host_departments.specs.DepartmentLines.{IsDepartmentLine}
use Rattle.host_departments.specs.Rows.{Rows, IsAssigned}
use Rattle.host_departments.specs.declared.{row.DepartmentLine.DepartmentLine, row.DepartmentLine.TheVariants.Quota, row.DepartmentLine.TheVariants.Assign, row.DepartmentLine.TheVariants.Spent, row.DepartmentLine.TheVariants.Print}

-- it is a `print` of a job that a department has
abbrev pub IsPrintOf : Rows → DepartmentLine → Type 0
IsPrintOf rows (Quota d q) = ⊥
IsPrintOf rows (Assign d j) = ⊥
IsPrintOf rows (Spent d) = ⊥
IsPrintOf rows (Print j) = IsAssigned rows j

-- a line that is about departments is left to the bench only as such a `print`
abbrev pub Passes : Rows → List ℕ → Type 0
Passes rows line = (own : DepartmentLine) → IsDepartmentLine own line → IsPrintOf rows own
