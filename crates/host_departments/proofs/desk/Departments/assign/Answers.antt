use Rattle.std.proofs.Common.{inl, inr}
use Rattle.host_departments.specs.View.{rows_of}
use Rattle.host_departments.proofs.Places.{one_department}
use Rattle.host_departments.proofs.desk.Departments.assign.Goals as goal

pub returns-else-owner-department-clause-assigns : goal.returns-else-owner-department-clause-assigns
returns-else-owner-department-clause-assigns g c =
    let s = c.args.self.now in
    let found = c.in-Some.ensures.found in
    let differs = c.if-owner-department.false in
    inr (
      λ has. differs (one_department (rows_of s) s.sound c.in-Some.owner c.args.department c.args.job found.0 c.requires.is found.1 has),
      inl (record { other = c.in-Some.owner; department = found.0; differs = differs; has = found.1 }, c.say-in-Some.ensures.says),
    )
