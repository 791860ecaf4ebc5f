-- What is kept of claims and of departments. None keeps nothing.
use Rattle.std.specs.Prelude.{ℕ, Option, Some, None}
use Rattle.nv_model.specs.declared.nv.Nv.{Ghosts}
use Rattle.host_departments.specs.Rows.{row_in}
use Rattle.host_departments.specs.View as departments
use Rattle.host_departments.specs.declared.{desk.Departments.Departments, row.DepartmentRow.DepartmentRow}
use Rattle.spoil_claims.specs.Claims.{kept}
use Rattle.spoil_claims.specs.View as claims
use Rattle.spoil_claims.specs.declared.{desk.Desk.Desk, claim.ClaimRow.ClaimRow}

module _ {N : Type 0} {g : Ghosts N} where
  -- the claim of this number
  abbrev pub claim_by : Option (Desk N g) → ℕ → Option ClaimRow
  claim_by None c = None
  claim_by (Some desk) c = kept (claims.rows_of desk) c

  -- what this cell of departments keeps
  abbrev pub row_by : Option (Departments N g) → ℕ → Option DepartmentRow
  row_by None k = None
  row_by (Some desk) k = row_in (departments.rows_of desk) k
