-- The record of a device, and the device in its place, as the bench sees a device.
use Rattle.node_acts.specs.declared.act.Act.{Act}
use Rattle.node_acts.specs.Views.{View}
use Rattle.node_acts.specs.Acts.{OfCommit}
use Rattle.psd_state.specs.Seen.{Seen, counting}
use Rattle.psd_state.specs.State.{State, Holds}
use Rattle.trace_nodes.specs.declared.traced.Traced.{Traced}
use Rattle.trace_nodes.specs.TracedNodes as traces
use Rattle.trace_device.specs.declared.record.DeviceRecord.{DeviceRecord}

abbrev pub seen_of : DeviceRecord → Seen
seen_of r = record { count = r.count; state = r.state }

-- what the traced node shows of the device
abbrev pub view_of : Traced DeviceRecord State → View Seen
view_of traced = traces.view_of counting seen_of traced

-- a device that is on has no open change; its record can take each
abbrev pub IsSettled : Traced DeviceRecord State → Type 0
IsSettled traced = traces.IsSettled counting (λ s x. Unit {0}) seen_of traced

-- the record that an act commits is one that storage can show
abbrev pub HoldsAct : {F A : Type 0} → Act State F A → Type 0
HoldsAct = OfCommit (λ c x. Holds x)
