use Rattle.verifier.specs.Payload.{IsPayloadOf}
use Rattle.verifier.specs.Rows.{TrustRow}
use Rattle.node_images.proofs.Shown.{row_back}
use Rattle.node_images.proofs.verifier_rows.shows_trust.Goals as goal

pub returns-in_default-clause-no : goal.returns-in_default-clause-no
returns-in_default-clause-no c is shown =
    c.in_default.ensures.none (row_back 2056 (IsPayloadOf c.args.place) c.args.cell.now c.args.count (TrustRow c.args.device c.args.key.now) shown).row.place

pub returns-then-not-copy_newest-clause-no : goal.returns-then-not-copy_newest-clause-no
returns-then-not-copy_newest-clause-no c is shown =
    let back = row_back 2056 (IsPayloadOf c.args.place) c.args.cell.now c.args.count (TrustRow c.args.device c.args.key.now) shown in
    c.copy_newest.ensures.no c.if-not-copy_newest.true back.bytes back.shows
