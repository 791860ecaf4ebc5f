-- What is judged of a line by what is seen of the device is so by the ledger.
use Rattle.std.proofs.Common.{◌≢◌, ℕ, ℤ, List, Result, refl}
use Rattle.std.specs.Prelude.{IfSome}
use Rattle.bench_base.specs.declared.{words.Node.TheVariants.Device, events.Reply.Reply}
use Rattle.node_acts.specs.declared.asked.Asked.{Asked}
use Rattle.node_acts.specs.Views.{View}
use Rattle.psd_state.specs.Seen.{Seen, counting}
use Rattle.bench_abstraction.specs.declared.calls.DeviceCall.{DeviceCall}
use Rattle.bench_abstraction.specs.declared.routing.OfDay.TheVariants as of_day
use Rattle.bench_abstraction.specs.Devices.{device_kind, device_act, IsKnown}
use Rattle.bench_abstraction.specs.Follows.{DevicesFollow}
use Rattle.bench_abstraction.specs.Kinds.{bench_kinds}
use Rattle.node_turns.specs.declared.turn.Turn.{Turn}
use Rattle.trace_views.proofs.Lifted.{IsByActs, lifts}
use Rattle.trace_device.specs.Verdicts.{commit_in, IsByView, IsByLedger}
use Rattle.trace_device.proofs.Plain.{call_plain}

by_acts : (d : ℕ) → IsByActs counting device_kind (Device d) d
by_acts d today v call = (device_act d today call v.state.state, refl, call_plain d today call v.state.state)

no_rates : (d : ℕ) (asked : Asked DeviceCall) → of_day.Device d asked ≢ of_day.Rates
no_rates d asked is = cc

pub by_ledger : {T : Type 0} (IsOf : T → Turn → Type 0) (d : ℕ) (today : ℤ) (asked : Asked DeviceCall) (line : List ℕ) (v w : View Seen) (result : Result T Reply)
    → DevicesFollow counting bench_kinds IsKnown → IsKnown v.state → IfSome (commit_in d today asked v) (λ x. IsKnown x.1)
    → IsByView IsOf d today asked line v w result → IsByLedger IsOf d today asked line v w result
by_ledger IsOf d today asked line v w result law known next judged =
    lifts counting device_kind (Device d) d (by_acts d) (of_day.Device d) (no_rates d) (λ a. Unit {0}) IsKnown (law d) today asked line v w known next IsOf result judged
