use Rattle.std.proofs.Common.{arith}
use Rattle.verifier.specs.Payload.{IsPayloadOf}
use Rattle.verifier.specs.Rows.{BlockRow}
use Rattle.node_images.proofs.Shown.{row_back}
use Rattle.node_images.proofs.verifier_rows.shows_block.Goals as goal

pub returns-then-place-clause-no : goal.returns-then-place-clause-no
returns-then-place-clause-no c is shown =
    let back = row_back 2056 (IsPayloadOf c.args.place) c.args.cell.now c.args.count (BlockRow c.args.device c.args.block c.args.scans.now) shown in
    omega (arith, c.if-place.true, back.row.place)

pub returns-then-not-copy_newest-clause-no : goal.returns-then-not-copy_newest-clause-no
returns-then-not-copy_newest-clause-no c is shown =
    let back = row_back 2056 (IsPayloadOf c.args.place) c.args.cell.now c.args.count (BlockRow c.args.device c.args.block c.args.scans.now) shown in
    c.copy_newest.ensures.no c.if-not-copy_newest.true back.bytes back.shows
