use Rattle.std.proofs.Common.{Option, sym, subst}
use Rattle.psd_state.specs.State.{State}
use Rattle.node_images.specs.Devices.{ShowsChanged}
use Rattle.node_images.proofs.device.shows_changed.Goals as goal

pub returns-in-Some-clause-yes : goal.returns-in-Some-clause-yes
returns-in-Some-clause-yes c is =
    subst (λ (o : Option State). ShowsChanged (record { count = c.args.count; state = c.args.state.now }) o c.args.image.now) (sym c.in-Some.is)
    (c.shows_record.ensures.yes is)

pub returns-in-Some-clause-no : goal.returns-in-Some-clause-no
returns-in-Some-clause-no c is shown =
    c.shows_record.ensures.no is
    (subst (λ (o : Option State). ShowsChanged (record { count = c.args.count; state = c.args.state.now }) o c.args.image.now) c.in-Some.is shown)
