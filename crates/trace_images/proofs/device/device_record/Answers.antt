use Rattle.std.proofs.Common.{Some, sym, subst, arith}
use Rattle.psd_state.specs.State.{State}
use Rattle.psd_device.specs.Shown.{ShowsSeen}
use Rattle.psd_device.specs.Sound.{IsSound}
use Rattle.node_images.proofs.Devices as devices
use Rattle.trace_images.proofs.DeviceShown.{is_shown, none_shown, blank_sound}
use Rattle.trace_images.proofs.device.device_record.Goals as goal

pub returns-in-Blank-clause-some : goal.returns-in-Blank-clause-some
returns-in-Blank-clause-some c = (blank_sound c.args.device, devices.none_shown c.args.image.now c.in-Blank.ensures.shows)

pub returns-in-Some-clause-some : goal.returns-in-Some-clause-some
returns-in-Some-clause-some c =
    let device = c.args.device in
    let count = c.in-Commits.count in
    let image = c.args.image.now in
    subst (λ (s : State). IsSound device (record { count = count; state = Some s }) × ShowsSeen (record { count = count; state = Some s }) image) (sym c.new.ensures)
    (is_shown device count c.read_newest.new.payload image c.in-Commits.ensures.shows c.in-Some.kept (omega arith) c.in-Some.ensures.found.0 c.in-Some.ensures.found.1)

pub returns-in-None-clause-none : goal.returns-in-None-clause-none
returns-in-None-clause-none c =
    none_shown c.args.device c.in-Commits.count c.read_newest.new.payload c.args.image.now c.in-Commits.ensures.shows c.in-None.ensures.none
