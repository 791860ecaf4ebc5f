-- The departments over their storage, as an extension.
use Rattle.nv_model.specs.declared.nv.Nv as nv
use Rattle.line_extensions.specs.declared.extension.Extension.{Ghosts}
use Rattle.host_departments.specs.ByKeeper.{by_keeper}
use Rattle.host_departments.specs.Courses.{stored}
use Rattle.host_departments.specs.declared.{desk.Departments.Departments, heard.Heard.Heard}

abbrev pub departments_desk : {N : Type 0} (g : nv.Ghosts N) → Ghosts (Departments N g) Heard
departments_desk g = by_keeper stored
