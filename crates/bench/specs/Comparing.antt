-- How a device and the centre compare, by their records as they run.
use Rattle.std.specs.Prelude.{◌≡◌, ℕ, ◌+◌, List, Some, None, slice_get}
use Rattle.bench_base.specs.declared.events.Reply.{Reply}
use Rattle.nv_model.specs.declared.nv.Nv.{Ghosts}
use Rattle.node_acts.specs.Views.{View}
use Rattle.psd_state.specs.Seen as device
use Rattle.psd_device.specs.declared.node.DeviceNode.{DeviceNode}
use Rattle.psd_device.specs.NodeView as device_view
use Rattle.centre_ledger.specs.Seen as centre
use Rattle.row_node.specs.NodeView as centre_view
use Rattle.centre_protocol.specs.NodeView.{CentreNode}
use Rattle.bench_abstraction.specs.Comparing.{compare}

-- a node as it runs, which has no open commit
abbrev pub running_device : {M : Type 0} {g : Ghosts M} → DeviceNode M g → View device.Seen
running_device k = record { state = device_view.seen_in k; next = None; on = device_view.is_on k }

abbrev pub running_centre : {M : Type 0} {g : Ghosts M} → CentreNode M g → View centre.Seen
running_centre k = record { state = centre_view.seen_in k; next = None; on = centre_view.is_on k }

-- the reply is what device d and the centre show
abbrev pub Shows : {M : Type 0} {g h : Ghosts M} → ℕ → DeviceNode M g → CentreNode M h → Reply → Type 0
Shows d k c reply = reply ≡ compare d (running_device k) (running_centre c)

-- where device d is the one in its place
abbrev pub ShowsAt : {M : Type 0} {g h : Ghosts M} → ℕ → List (DeviceNode M g) → CentreNode M h → Reply → Type 0
ShowsAt d devices c reply = (i : ℕ) (k : _) → d ≡ i + 1 → slice_get devices i ≡ Some k → Shows d k c reply
