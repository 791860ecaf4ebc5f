-- The nodes of a bench that is made, begins a run, and is taken apart.
use Rattle.std.specs.Prelude.{◌≡◌, ℕ, List, [], ◌∷◌, false, Bool, Some, None, slice_get, slice_set}
use Rattle.nv_model.specs.declared.nv.Nv as nv
use Rattle.nv_model.specs.declared.fused.Fused.{Fused}
use Rattle.nv_model.specs.Fuses.{inside, state_of}
use Rattle.node_acts.specs.Views.{View, stopped}
use Rattle.node_storage.specs.declared.node.Node.{Ghosts}
use Rattle.node_storage.specs.Stands.{Stands}
use Rattle.psd_device.specs.declared.node.DeviceNode.{DeviceNode}
use Rattle.psd_device.specs.NodeView as device
use Rattle.row_node.specs.declared.cells.Cells as cells
use Rattle.row_node.specs.declared.rows.Rows as rows
use Rattle.row_node.specs.declared.node.RowNode.{RowNode}
use Rattle.row_node.specs.NodeView as row_node
use Rattle.centre_protocol.specs.NodeView.{CentreNode}
use Rattle.host_node.specs.NodeView.{HostNode}
use Rattle.verifier_node.specs.NodeView.{VerifierNode}
use Rattle.bench.specs.Benches.{Bench, Nodes, BenchOf}
use Rattle.bench.specs.Benches as benches

-- two lists of one length, with each two elements at the same place related
abbrev pub Pairs : {X Y : Type 0} → (X → Y → Type 0) → List X → List Y → Type 0
Pairs P [] [] = Unit {0}
Pairs P (x ∷ xs) (y ∷ ys) = P x y × Pairs P xs ys
Pairs P _ _ = ⊥

-- a node over a storage with a fuse is off; the storage within is this one, and the fuse is not armed
pub record IsOver {N : Type 0} {h : nv.Ghosts N} (store : N) (is_on : Bool) (storage : Fused N h) : Type 0 where
  pub off : is_on ≡ false
  pub within : inside storage ≡ store
  pub unarmed : state_of storage ≡ record { lost = false; fuse = None; keep = 0; byte = 0; last = None }

abbrev pub IsDeviceOver : {N : Type 0} {h : nv.Ghosts N} {g : nv.Ghosts (Fused N h)} → N → DeviceNode (Fused N h) g → Type 0
IsDeviceOver store k = IsOver store (device.is_on k) (device.storage_in k)

abbrev pub IsRowsOver : {N R X M P : Type 0} {h : nv.Ghosts N} {g : nv.Ghosts (Fused N h)} {r : rows.Ghosts R X M P} {m : cells.Ghosts M P} → N
    → RowNode (Fused N h) R X M P g r m → Type 0
IsRowsOver store k = IsOver store (row_node.is_on k) (row_node.storage_in k)

-- the storage is the one inside the node's fuse
abbrev pub IsInDevice : {N : Type 0} {h : nv.Ghosts N} {g : nv.Ghosts (Fused N h)} → DeviceNode (Fused N h) g → N → Type 0
IsInDevice k store = store ≡ inside (device.storage_in k)

abbrev pub IsInRows : {N R X M P : Type 0} {h : nv.Ghosts N} {g : nv.Ghosts (Fused N h)} {r : rows.Ghosts R X M P} {m : cells.Ghosts M P}
    → RowNode (Fused N h) R X M P g r m → N → Type 0
IsInRows k store = store ≡ inside (row_node.storage_in k)

-- the nodes of a bench over storages with fuses
abbrev pub FusedBench : (N : Type 0) (h : nv.Ghosts N) → nv.Ghosts (Fused N h) → Type 0
FusedBench N h g = Bench (DeviceNode (Fused N h) g) (CentreNode (Fused N h) g) (HostNode (Fused N h) g) (VerifierNode (Fused N h) g)

-- each node of a bench is off, over the storage in its place; each storage is the one inside the fuse of the node in its place
pub record AreOver {N : Type 0} {h : nv.Ghosts N} {g : nv.Ghosts (Fused N h)} (stores : benches.Places N) (bench : FusedBench N h g) : Type 0 where
  pub devices : Pairs (λ store k. IsDeviceOver store k) stores.devices bench.devices
  pub centre : IsRowsOver stores.centre bench.centre
  pub host : IsRowsOver stores.host bench.host
  pub verifier : IsRowsOver stores.verifier bench.verifier

pub record AreInside {N : Type 0} {h : nv.Ghosts N} {g : nv.Ghosts (Fused N h)} (bench : FusedBench N h g) (stores : benches.Places N) : Type 0 where
  pub devices : Pairs (λ k store. IsInDevice k store) bench.devices stores.devices
  pub centre : IsInRows bench.centre stores.centre
  pub host : IsInRows bench.host stores.host
  pub verifier : IsInRows bench.verifier stores.verifier

module _ {K S N C R : Type 0} (n : Ghosts K S N C R) (g : nv.Ghosts S) where
  -- a node after a begin: it is off, over the storage as it was
  pub record IsStopped (s t : K) : Type 0 where
    pub off : n.is_on t ≡ false
    pub storage : n.storage t ≡ n.storage s
    pub stands : (d : N) (v : View n.Seen) → Stands n g d v s → Stands n g d (stopped v) t

  abbrev pub AreStopped : List K → List K → Type 0
  AreStopped old new = Pairs IsStopped old new

  -- the node in one place was switched off
  pub record StopsAt (place : ℕ) (old new : List K) : Type 0 where
    pub before : K
    pub now : K
    pub was : slice_get old place ≡ Some before
    pub set : new ≡ slice_set old place now
    pub stops : IsStopped before now

-- a run begins: each node was switched off
pub record Begun (n : Nodes) (old new : BenchOf n) : Type 0 where
  pub devices : AreStopped n.devices n.storage old.devices new.devices
  pub centre : IsStopped n.centre n.storage old.centre new.centre
  pub host : IsStopped n.host n.storage old.host new.host
  pub verifier : IsStopped n.verifier n.storage old.verifier new.verifier
