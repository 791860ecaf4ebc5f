use Rattle.node_images.proofs.Shown.{none_held, none_back}
use Rattle.verifier.specs.Payload.{IsPayloadOf}
use Rattle.node_images.proofs.verifier_rows.shows_no_block.Goals as goal

pub returns-clause-yes : goal.returns-clause-yes
returns-clause-yes c is = none_held 2056 (IsPayloadOf c.args.place) c.args.cell.now (c.is_blank.ensures.yes is)

pub returns-clause-no : goal.returns-clause-no
returns-clause-no c is shown = c.is_blank.ensures.no is (none_back 2056 (IsPayloadOf c.args.place) c.args.cell.now shown)
