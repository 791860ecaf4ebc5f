use Rattle.host_departments.specs.View.{rows_of}
use Rattle.host_departments.proofs.Keeping.{job_place}
use Rattle.host_departments.proofs.Places.{owner}
use Rattle.host_departments.proofs.desk.Departments.department.Goals as goal

pub department_of-requires : goal.department_of-requires
department_of-requires g c = record { behind = (job_place c.args.self.now.room c.args.self.now.filled c.in-Some.cell c.args.job c.in-Some.ensures.found.0).0 }

pub returns-in-Some-clause-found : goal.returns-in-Some-clause-found
returns-in-Some-clause-found g c =
    let found = c.in-Some.ensures.found in
    let place = job_place c.args.self.now.room c.args.self.now.filled c.in-Some.cell c.args.job found.0 in
    owner (rows_of c.args.self.now) c.in-Some.cell c.args.job c.department_of.result place.0 found.1 found.0 c.department_of.ensures
