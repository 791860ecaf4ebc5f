-- When an auditor that starts from records has what storages represent.
use Rattle.std.specs.Prelude.{◌≡◌, ℕ, ◌+◌, ◌<◌, List, [], length, get_or, Some, None, slice_get}
use Rattle.bench_base.specs.declared.{words.Node.Node}
use Rattle.bench_base.specs.Ledger.{Ledger, torn_of}
use Rattle.nv_model.specs.declared.nv.Nv.{Ghosts}
use Rattle.nv_model.specs.Moments.{Image}
use Rattle.row_node.specs.Shows.{ShowsRows}
use Rattle.psd_state.specs.Seen as device_seen
use Rattle.centre_ledger.specs.Seen as centre_seen
use Rattle.host_jobs.specs.Seen as host_seen
use Rattle.verifier.specs.Seen as verifier_seen
use Rattle.psd_device.specs.Shown.{ShowsSeen}
use Rattle.psd_device.specs.Sound as device_sound
use Rattle.centre_protocol.specs.Sound as centre_sound
use Rattle.centre_protocol.specs.Payloads as centre_rows
use Rattle.host_node.specs.Payloads as host_rows
use Rattle.verifier.specs.Payload as verifier_rows
use Rattle.bench.specs.Benches.{Places, Nodes, StoresStand}
use Rattle.trace_device.specs.declared.record.DeviceRecord.{DeviceRecord}
use Rattle.trace_device.specs.Records.{seen_of}
use Rattle.trace_centre.specs.declared.record.CentreRecord.{CentreRecord}
use Rattle.trace_centre.specs.Cells as centre
use Rattle.trace_host.specs.declared.record.HostRecord.{HostRecord}
use Rattle.trace_host.specs.Cells as host
use Rattle.trace_verifier.specs.declared.record.ScanRecord.{ScanRecord}
use Rattle.trace_verifier.specs.Cells as verifier
use Rattle.trace_bench.specs.Seeing.{Audit, Sees}
use Rattle.trace_bench.specs.Starting.{StartsFrom}

-- == what an image shows: a record that the storage of the node can have ==

pub record ShowsDevice (d : ℕ) (image : List ℕ) (s : device_seen.Seen) : Type 0 where
  pub sound : device_sound.IsSound d s
  pub shows : ShowsSeen s image

pub record ShowsCentre (image : List ℕ) (s : centre_seen.Seen) : Type 0 where
  pub sound : centre_sound.IsSound s
  pub shows : ShowsRows 192 72 centre_rows.IsPayloadOf s image

pub record ShowsHost (image : List ℕ) (s : host_seen.Seen) : Type 0 where
  pub sound : host_seen.IsKnown s
  pub shows : ShowsRows 115 1024 host_rows.IsPayloadOf s image

pub record ShowsVerifier (image : List ℕ) (s : verifier_seen.Seen) : Type 0 where
  pub sound : verifier_seen.IsKnown s
  pub shows : ShowsRows 2056 1032 verifier_rows.IsPayloadOf s image

-- == images of storages, in their places ==

pub record Images : Type 0 where
  pub devices : List (List ℕ)
  pub centre : List ℕ
  pub host : List ℕ
  pub verifier : List ℕ

-- each storage may have the bytes in its place
pub record HaveImages {N : Type 0} (h : Ghosts N) (images : Images) (stores : Places N) : Type 0 where
  pub eight : length stores.devices ≡ 8
  pub devices : (i : ℕ) (store : N) → slice_get stores.devices i ≡ Some store → Image (h.times store) (get_or images.devices i [])
  pub centre : Image (h.times stores.centre) images.centre
  pub host : Image (h.times stores.host) images.host
  pub verifier : Image (h.times stores.verifier) images.verifier

-- the images show these records; number i of the devices is device i + 1
pub record AreShown (images : Images) (records : List DeviceRecord) (c : CentreRecord) (h : HostRecord) (v : ScanRecord) : Type 0 where
  pub eight : length records ≡ 8
  pub devices : (i : ℕ) (r : DeviceRecord) → slice_get records i ≡ Some r → ShowsDevice (i + 1) (get_or images.devices i []) (seen_of r)
  pub centre : ShowsCentre images.centre (centre.cells_of c)
  pub host : ShowsHost images.host (host.cells_of h)
  pub verifier : ShowsVerifier images.verifier (verifier.cells_of v)

-- an image shows no record of its node
pub data ShowsNone (images : Images) : Type 0 where
  no_device : (i : ℕ) → i < 8 → ((s : device_seen.Seen) → ShowsDevice (i + 1) (get_or images.devices i []) s → ⊥) → ShowsNone images
  no_centre : ((s : centre_seen.Seen) → ShowsCentre images.centre s → ⊥) → ShowsNone images
  no_host : ((s : host_seen.Seen) → ShowsHost images.host s → ⊥) → ShowsNone images
  no_verifier : ((s : verifier_seen.Seen) → ShowsVerifier images.verifier s → ⊥) → ShowsNone images

-- == a start ==

-- no commit of a node is open
abbrev pub NoneOpen : Ledger → Type 0
NoneOpen H = (m : Node) → torn_of m H ≡ None

module _ (n : Nodes) where
  -- the storages may have these images, and they represent the ledger, with no commit open
  pub record Stands (images : Images) (stores : Places n.Inner) (H : Ledger) : Type 0 where
    pub tells : n.inner.tells
    pub have : HaveImages n.inner images stores
    pub closed : NoneOpen H
    pub stand : StoresStand n stores H

  -- AN AUDITOR THAT STARTS FROM THE RECORDS WHICH THE IMAGES SHOW sees each ledger that the storages represent
  abbrev pub SeesWhatStands : Type 0
  SeesWhatStands = (images : Images) (devices : List DeviceRecord) (c : CentreRecord) (h : HostRecord) (v : ScanRecord) (a : Audit)
      → AreShown images devices c h v → StartsFrom devices c h v a → (stores : Places n.Inner) (H : Ledger) → Stands images stores H → Sees a H

  -- IF AN IMAGE SHOWS NO RECORD, the storages represent none
  abbrev pub RefusesRightly : Type 0
  RefusesRightly = (images : Images) → ShowsNone images → (stores : Places n.Inner) (H : Ledger) → Stands images stores H → ⊥
