-- What a line of the report shows about an event of device d, by what is seen of the device, and by the ledger.
use Rattle.std.specs.Prelude.{ℕ, ℤ, List, Option, Result}
use Rattle.bench_base.specs.declared.{words.Node.TheVariants.Device, ledger.Commit.Commit, events.Event.Event, events.Reply.Reply}
use Rattle.bench_base.specs.Ledger.{Ledger}
use Rattle.node_acts.specs.declared.asked.Asked.{Asked}
use Rattle.node_acts.specs.Views.{View}
use Rattle.node_turns.specs.declared.turn.Turn.{Turn}
use Rattle.psd_state.specs.Seen.{Seen, counting}
use Rattle.ledger_moves.specs.Tariffs.{Tariff}
use Rattle.bench_abstraction.specs.declared.calls.DeviceCall.{DeviceCall}
use Rattle.bench_abstraction.specs.declared.routing.OfDay.TheVariants as of_day
use Rattle.bench_abstraction.specs.Devices.{device_kind}
use Rattle.trace_views.specs.Verdicts as views

-- what the device's commit is of what it is asked on a day, by what is seen of it
abbrev pub commit_in : ℕ → ℤ → Asked DeviceCall → View Seen → Option (Commit × Seen)
commit_in d = views.commit_in counting device_kind (Device d) d

abbrev pub IsByView : {T : Type 0} → (T → Turn → Type 0) → ℕ → ℤ → Asked DeviceCall → List ℕ → View Seen → View Seen → Result T Reply → Type 0
IsByView IsOf d = views.IsByView counting device_kind (Device d) d IsOf

abbrev pub MovesBy : {T : Type 0} → (T → Turn → Type 0) → Tariff → Ledger → Event → ℕ → List ℕ → View Seen → Result T Reply → Type 0
MovesBy IsOf τ H e d = views.MovesBy counting device_kind (Device d) d IsOf τ H e

abbrev pub IsByLedger : {T : Type 0} → (T → Turn → Type 0) → ℕ → ℤ → Asked DeviceCall → List ℕ → View Seen → View Seen → Result T Reply → Type 0
IsByLedger IsOf d = views.IsByLedger counting device_kind (Device d) d IsOf (of_day.Device d) (λ a. Unit {0})
