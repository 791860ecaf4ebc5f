use Rattle.std.proofs.Common.{refl, subst}
use Rattle.std.specs.Prelude.{Option, IfSome}
use Rattle.host_departments.specs.DepartmentLines.{IsDepartmentLine}
use Rattle.host_departments.specs.View.{rows_of}
use Rattle.host_departments.specs.declared.row.DepartmentLine.{DepartmentLine}
use Rattle.host_departments.proofs.Reading.{passes_print}
use Rattle.host_departments.proofs.own.DepartmentsExtension.begin.Goals as goal

pub returns-then-is_left-clause-passes : goal.returns-then-is_left-clause-passes
returns-then-is_left-clause-passes g c =
    let line = c.args.line.now in
    let here : IsDepartmentLine c.in-Some.own line =
    subst (λ (o : Option DepartmentLine). IfSome o (λ own. IsDepartmentLine own line)) c.in-Some.is c.read_department_line.ensures.found in
    let both = passes_print (rows_of c.args.self.now) c.in-Some.own line here (c.is_left.ensures.0 c.if-is_left.true) in
    (both.0, both.1, refl)
