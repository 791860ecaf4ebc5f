use Rattle.node_images.proofs.Shown.{none_held, none_back}
use Rattle.host_node.specs.Payloads.{IsPayloadOf}
use Rattle.node_images.proofs.host.shows_no_job.Goals as goal

pub returns-clause-yes : goal.returns-clause-yes
returns-clause-yes c is = none_held 115 (IsPayloadOf c.args.place) c.args.cell.now (c.is_blank.ensures.yes is)

pub returns-clause-no : goal.returns-clause-no
returns-clause-no c is shown = c.is_blank.ensures.no is (none_back 115 (IsPayloadOf c.args.place) c.args.cell.now shown)
