use Rattle.node_images.proofs.Devices.{record_shown, record_back, record_there}
use Rattle.node_images.proofs.device.shows_record.Goals as goal

pub returns-then-not-copy_newest-clause-no : goal.returns-then-not-copy_newest-clause-no
returns-then-not-copy_newest-clause-no c is shown =
    let back = record_back c.args.image.now c.args.count c.args.kept.now shown in
    c.copy_newest.ensures.no c.if-not-copy_newest.true back.bytes back.shows

pub returns-clause-yes : goal.returns-clause-yes
returns-clause-yes c is =
    record_shown c.args.image.now c.args.count c.args.kept.now c.copy_newest.new.payload (c.copy_newest.ensures.yes c.if-not-copy_newest.false)
    (c.reads_as_record.ensures.yes is)

pub returns-clause-no : goal.returns-clause-no
returns-clause-no c is shown =
    c.reads_as_record.ensures.no is
    (record_there c.args.image.now c.args.count c.args.kept.now c.copy_newest.new.payload (c.copy_newest.ensures.yes c.if-not-copy_newest.false) shown)
