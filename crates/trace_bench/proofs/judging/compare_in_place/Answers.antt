use Rattle.std.proofs.Common.{ℕ, ◌-◌, ◌<◌, ◌≡◌, sym, ap, ◌∙◌, arith}
use Rattle.std.proofs.lemmas.Option.{slice_get_read, same_Some}
use Rattle.std.specs.Prelude.{slice_get}
use Rattle.bench_abstraction.specs.Comparing.{compare}
use Rattle.trace_device.specs.Records as device
use Rattle.trace_centre.specs.Cells as centre
use Rattle.trace_bench.proofs.judging.compare_in_place.Goals as goal

pub returns-clause-shows : goal.returns-clause-shows
returns-clause-shows c i s named at =
    let devices = c.args.devices.now in
    let place = c.get.result - 1 in
    let inside : place < 8 = omega (arith, c.get.ensures.range.0, c.get.ensures.range.1) in
    let was = slice_get_read devices 8 place c.index-devices-place.result (sym c.requires.eight) inside c.index-devices-place.is in
    let same : i ≡ place = omega (arith, c.get.ensures.value) in
    let one : c.index-devices-place.result ≡ s = same_Some _ _ (sym was ∙ ap (λ (k : ℕ). slice_get devices k) (sym same) ∙ at) in
    c.compare.ensures ∙ ap (λ d. compare c.args.device (device.view_of d) (centre.view_of c.args.centre.now)) one
