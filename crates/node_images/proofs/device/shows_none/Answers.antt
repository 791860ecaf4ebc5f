use Rattle.node_images.proofs.Devices.{none_shown, none_back}
use Rattle.node_images.proofs.device.shows_none.Goals as goal

pub returns-clause-yes : goal.returns-clause-yes
returns-clause-yes c is = none_shown c.args.image.now (c.is_blank.ensures.yes is)

pub returns-clause-no : goal.returns-clause-no
returns-clause-no c is shown = c.is_blank.ensures.no is (none_back c.args.image.now shown)
