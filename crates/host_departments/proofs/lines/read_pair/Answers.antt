use Rattle.std.proofs.Common.{ℕ, sym, subst, ◌∙◌, true≢false}
use Rattle.host_departments.specs.Rows.{IsDepartment}
use Rattle.host_departments.proofs.Reading.{few}
use Rattle.host_departments.proofs.lines.read_pair.Goals as goal
use Rattle.script_text.proofs.ReadBack.{one_number}

pub returns-clause-none : goal.returns-clause-none
returns-clause-none c d n department word is =
    let found = c.in-Ok.ensures.found in
    true≢false (sym (c.is_department.ensures.1 (subst (λ (m : ℕ). IsDepartment m) (sym (one_number _ c.in-Ok.read.0 d _ _ found.0 (few d department) found.2 is)) department)) ∙ c.if-is_department.false)
