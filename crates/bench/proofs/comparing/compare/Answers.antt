use Rattle.std.proofs.Common.{◌≡◌, ◌-◌, ◌<◌, sym, ap, subst, arith}
use Rattle.std.specs.Prelude.{slice_get}
use Rattle.std.proofs.lemmas.Option.{slice_get_read}
use Rattle.psd_device.specs.declared.node.DeviceNode.{DeviceNode}
use Rattle.bench.specs.Comparing.{Shows}
use Rattle.bench.proofs.Sets.{same_some}
use Rattle.bench.proofs.comparing.compare.Goals as goal

pub returns : goal.returns
returns g c i k next is =
    let place = c.get.result - 1 in
    let inside : place < 8 = omega (arith, c.get.ensures.range.0, c.get.ensures.range.1) in
    let same : i ≡ place = omega (arith, c.get.ensures.range.0, c.get.ensures.value, next) in
    let there = slice_get_read c.args.devices.now 8 place c.index-devices-place.result (sym c.requires.eight) inside c.index-devices-place.is in
    let one : c.index-devices-place.result ≡ k = same_some k c.index-devices-place.result (slice_get c.args.devices.now i) (slice_get c.args.devices.now place) (ap (λ j. slice_get c.args.devices.now j) same) is there in
    subst (λ (n : DeviceNode g.row.M.Denot g.M.Nv). Shows c.args.device n c.args.centre.now c.compare_place.result) one c.compare_place.ensures
