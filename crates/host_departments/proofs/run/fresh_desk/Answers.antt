use Rattle.host_departments.specs.declared.row.TheConstants.{DEPARTMENT_BYTES}
use Rattle.host_departments.proofs.run.fresh_desk.Goals as goal

pub boot-requires-clause-powered : goal.boot-requires-clause-powered
boot-requires-clause-powered c = c.in_ok-nv.ensures.works.powered

pub returns-in-Ok-clause-none : goal.returns-in-Ok-clause-none
returns-in-Ok-clause-none c = c.in-Ok.ensures.blank c.in_ok-nv.ensures.tells DEPARTMENT_BYTES c.in_ok-nv.ensures.blank
