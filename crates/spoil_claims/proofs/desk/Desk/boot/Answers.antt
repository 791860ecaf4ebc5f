use Rattle.nv_store.specs.RoomView.{cells_of, kept_in}
use Rattle.spoil_claims.proofs.Blank.{none_kept}
use Rattle.spoil_claims.proofs.Keeping.{rows_long}
use Rattle.spoil_claims.proofs.desk.Desk.boot.Goals as goal

pub returns-in-Ok-clause-blank : goal.returns-in-Ok-clause-blank
returns-in-Ok-clause-blank g c tells bytes only k =
    let nv = c.boot_rows.new.nv in
    let room = c.boot_rows.new.room in
    none_kept g.N.Nv c.args.nv nv (cells_of room) bytes _ (rows_long (cells_of room) (kept_in room)) (c.boot_rows.ensures.mounts tells) (g.met.N.Nv.nested nv tells) (g.met.N.Nv.content_is nv tells) only
    (c.in-Ok.ensures.shows tells) k
