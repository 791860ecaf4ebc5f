use Rattle.host_departments.proofs.Reading.{none_alone}
use Rattle.host_departments.proofs.lines.read_department_line.Goals as goal

pub returns-in-None-clause-none : goal.returns-in-None-clause-none
returns-in-None-clause-none c = none_alone c.args.line.now c.in-None.ensures.split
