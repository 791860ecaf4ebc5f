use Rattle.std.proofs.Common.{ℕ, ◌-◌, ◌<◌, sym, ap, ◌∙◌, arith}
use Rattle.std.proofs.lemmas.Option.{slice_get_read}
use Rattle.std.specs.Prelude.{slice_get}
use Rattle.trace_bench.proofs.telling.traced_of.Goals as goal

pub returns-clause-at : goal.returns-clause-at
returns-clause-at c =
    let devices = c.args.devices.now in
    let place = c.get.result - 1 in
    let inside : place < 8 = omega (arith, c.get.ensures.range.0, c.get.ensures.range.1) in
    let was = slice_get_read devices 8 place c.index-devices-place.result (sym c.requires.eight) inside c.index-devices-place.is in
    ap (λ (d : ℕ). slice_get devices (d - 1)) (sym c.get.ensures.value) ∙ was

pub returns-clause-named : goal.returns-clause-named
returns-clause-named c = omega (arith, c.get.ensures.value, c.get.ensures.range.0)

pub returns-clause-ranged : goal.returns-clause-ranged
returns-clause-ranged c = (omega (arith, c.get.ensures.value, c.get.ensures.range.0), omega (arith, c.get.ensures.value, c.get.ensures.range.1))
