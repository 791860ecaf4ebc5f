use Rattle.std.proofs.Common.{refl}
use Rattle.nv_store.specs.RoomView.{kept_in}
use Rattle.host_node.proofs.Booted.{found, unsound}
use Rattle.host_node.proofs.rows.HostRowsRows.read.Goals as goal

pub returns-in-Some : goal.returns-in-Some
returns-in-Some c =
    let e = c.in-Ok.ensures in
    found (kept_in c.args.cells.now) c.read_jobs.new.rows e.long e.read _ refl c.in-Some.ensures.kept

pub returns-in-None : goal.returns-in-None
returns-in-None c =
    let e = c.in-Ok.ensures in
    unsound (kept_in c.args.cells.now) c.read_jobs.new.rows e.long e.read (λ sound. let some = c.in-None.ensures.joined.1 sound.joined in cc)
