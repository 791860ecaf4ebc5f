use Rattle.host_departments.specs.View.{rows_of}
use Rattle.host_departments.proofs.Places.{last_blank}
use Rattle.host_departments.proofs.desk.Departments.send.Goals as goal

pub invariant_of-self-clause-waits : goal.invariant_of-self-clause-waits
invariant_of-self-clause-waits g c =
    let s = c.args.self.now in
    (c.requires.is, c.requires.limit, last_blank (rows_of s) c.args.department (s.sound.each c.args.department c.requires.is).0 c.jobs.result c.jobs.ensures c.if-jobs-eq-JOBS.false, c.requires.free)
