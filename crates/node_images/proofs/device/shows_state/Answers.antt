use Rattle.std.proofs.Common.{Option, Some, sym, ◌∙◌, ap, subst}
use Rattle.psd_state.specs.State.{State}
use Rattle.psd_device.specs.Shown.{IsShown}
use Rattle.node_images.proofs.Devices.{none_to}
use Rattle.node_images.proofs.device.shows_state.Goals as goal

some : State → Option State
some s = Some s

pub returns-in-None-clause-yes : goal.returns-in-None-clause-yes
returns-in-None-clause-yes c is =
    subst (λ (o : Option State). IsShown c.args.count o c.args.image.now) (sym c.in-None.is)
    (none_to c.args.image.now 0 c.args.count (c.shows_none.ensures.yes is))

pub returns-in-None-clause-no : goal.returns-in-None-clause-no
returns-in-None-clause-no c is shown =
    c.shows_none.ensures.no is
    (none_to c.args.image.now c.args.count 0 (subst (λ (o : Option State). IsShown c.args.count o c.args.image.now) c.in-None.is shown))

pub returns-in-Some-clause-yes : goal.returns-in-Some-clause-yes
unfolding some
returns-in-Some-clause-yes c is =
    subst (λ (o : Option State). IsShown c.args.count o c.args.image.now) (ap some c.record.ensures ∙ sym c.in-Some.is) (c.shows_record.ensures.yes is)

pub returns-in-Some-clause-no : goal.returns-in-Some-clause-no
unfolding some
returns-in-Some-clause-no c is shown =
    c.shows_record.ensures.no is
    (subst (λ (o : Option State). IsShown c.args.count o c.args.image.now) (c.in-Some.is ∙ sym (ap some c.record.ensures)) shown)
