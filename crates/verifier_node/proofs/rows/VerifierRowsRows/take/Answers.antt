use Rattle.nv_store.specs.RoomView.{kept_in}
use Rattle.verifier_node.proofs.Takes.{may_index, takes}
use Rattle.verifier_node.proofs.rows.VerifierRowsRows.take.Goals as goal

pub index_change-requires : goal.index_change-requires
index_change-requires c =
    let was = c.requires.committed in
    may_index c.args.self.now was.0 (kept_in c.args._cells.now) c.args.change.now was.1 c.args.blank was.2.next

pub returns : goal.returns
returns c held payload done =
    takes c.args.self.now held (kept_in c.args._cells.now) c.args.change.now payload c.args.blank done.next _ done c.index_change.ensures
