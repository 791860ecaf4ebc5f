use Rattle.std.proofs.Common.{rules, List, [], ◌∷◌, map, ap, ◌∙◌}
use Rattle.trace_device.specs.declared.record.DeviceRecord.{DeviceRecord}
use Rattle.trace_bench.specs.Starting.{at_rest}
use Rattle.trace_bench.proofs.Starts.{eight_are}
use Rattle.trace_bench.proofs.starting.resting_devices.Goals as goal

pub returns : goal.returns
returns c =
    let same = eight_are c.args.devices (search rules) c.a-1.given.0 c.b-1.given.0 c.c-1.given.0 c.d-1.given.0 c.e-1.given.0 c.f-1.given.0 c.g-1.given.0 c.h-1.given.0
    c.a-1.given.1 c.b-1.given.1 c.c-1.given.1 c.d-1.given.1 c.e-1.given.1 c.f-1.given.1 c.g-1.given.1 c.h-1.given.1 in
    c.in_ok-nodes.ensures.items
    ∙ (λ i. c.resting.ensures i ∷ c.resting-2.ensures i ∷ c.resting-3.ensures i ∷ c.resting-4.ensures i ∷ c.resting-5.ensures i ∷ c.resting-6.ensures i ∷ c.resting-7.ensures i ∷ c.resting-8.ensures i ∷ [])
    ∙ ap (λ (l : List DeviceRecord). map (λ r. at_rest r) l) same
