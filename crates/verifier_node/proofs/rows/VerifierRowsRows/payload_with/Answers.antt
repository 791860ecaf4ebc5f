use Rattle.std.proofs.Common.{sym}
use Rattle.nv_store.specs.RoomView.{kept_in}
use Rattle.verifier_node.proofs.Takes.{payload_next}
use Rattle.verifier_node.proofs.rows.VerifierRowsRows.payload_with.Goals as goal

pub returns-clause-reads : goal.returns-clause-reads
returns-clause-reads c =
    let keeps = c.requires.keeps in
    payload_next c.args.self.now (kept_in c.args.cells.now) c.args.change.now c.payload_with.result keeps.filled keeps.follows.together c.requires.fits c.payload_with.ensures

pub returns-clause-value : goal.returns-clause-value
returns-clause-value c = sym c.payload_with.ensures.reads
