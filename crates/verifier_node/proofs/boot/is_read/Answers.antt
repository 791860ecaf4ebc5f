use Rattle.nv_store.specs.RoomView.{kept_in}
use Rattle.verifier_node.proofs.Reading.{read_cell, blank_cell}
use Rattle.verifier_node.proofs.boot.is_read.Goals as goal

pub returns-in-Some : goal.returns-in-Some
returns-in-Some c = read_cell (kept_in c.args.room.now) c.args.cell c.in-Some.payload.now _ c.in-Some.ensures.payload c.in-Some.ensures.few c.requires.inside c.reads.ensures

pub returns-in-None : goal.returns-in-None
returns-in-None c = blank_cell (kept_in c.args.room.now) c.args.cell c.in-None.ensures.payload c.in-None.ensures.few
