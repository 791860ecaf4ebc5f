use Rattle.nv_store.specs.RoomView.{cells_of}
use Rattle.host_departments.proofs.Blank.{none_kept}
use Rattle.host_departments.proofs.Keeping.{rows_long}
use Rattle.host_departments.proofs.desk.Departments.boot.Goals as goal

pub returns-in-Ok-clause-blank : goal.returns-in-Ok-clause-blank
returns-in-Ok-clause-blank g c tells bytes only k =
    let nv = c.boot_rows.new.nv in
    let room = c.boot_rows.new.room in
    none_kept g.N.Nv c.args.nv nv (cells_of room) bytes _ (rows_long room) (c.boot_rows.ensures.mounts tells) (g.met.N.Nv.nested nv tells) (g.met.N.Nv.content_is nv tells) only (c.in-Ok.ensures.shows tells) k
