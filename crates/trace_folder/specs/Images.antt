-- What an image of a storage shows, by what was counted of its node and by the commit in doubt.
use Rattle.std.specs.Prelude.{◌≡◌, ◌⊎◌, ℕ, ◌<◌, List, Option, Some, None}
use Rattle.bench_base.specs.declared.sizes.TheConstants.{ROW_BYTES, CENTRE_CELLS, BLOCK_BYTES, VERIFIER_CELLS}
use Rattle.node_acts.specs.RowList.{RowList, row_at}
use Rattle.node_acts.specs.Views.{View}
use Rattle.row_node.specs.Shows.{ShowsRows}
use Rattle.psd_state.specs.State.{State}
use Rattle.psd_state.specs.Seen as device_seen
use Rattle.psd_device.specs.Shown.{ShowsSeen}
use Rattle.centre_ledger.specs.declared.rows.Row.{Row}
use Rattle.centre_ledger.specs.Seen as centre_seen
use Rattle.centre_protocol.specs.Payloads as centre_rows
use Rattle.host_jobs.specs.declared.{rows.JobRow.JobRow, sizes.TheConstants.JOB_BYTES, sizes.TheConstants.HOST_CELLS}
use Rattle.host_jobs.specs.Seen as host_seen
use Rattle.host_node.specs.Payloads as host_rows
use Rattle.verifier.specs.declared.acts.Change.{Change}
use Rattle.verifier.specs.Seen as verifier_seen
use Rattle.verifier.specs.Payload as verifier_rows
use Rattle.node_images.specs.Cells.{ShowsCell}
use Rattle.node_images.specs.Devices.{AreSound, ShowsChanged}
use Rattle.node_images.specs.Joined.{bytes_of}
use Rattle.trace_nodes.specs.declared.traced.Traced.{Traced}
use Rattle.trace_device.specs.declared.record.DeviceRecord.{DeviceRecord}
use Rattle.trace_device.specs.Records as device
use Rattle.trace_centre.specs.declared.record.CentreRecord.{CentreRecord}
use Rattle.trace_centre.specs.Cells as centre
use Rattle.trace_host.specs.declared.record.HostRecord.{HostRecord}
use Rattle.trace_host.specs.Cells as host
use Rattle.trace_verifier.specs.declared.record.ScanRecord.{ScanRecord}
use Rattle.trace_verifier.specs.Cells as verifier
use Rattle.trace_folder.specs.declared.shows.Shows.{Shows}
use Rattle.trace_folder.specs.declared.shows.Shows.TheVariants.{Counted, Open, Other}

-- COUNTED if what was counted is shown; OPEN if that with the commit in doubt is shown; OTHER if neither is, with the first cell that shows neither
abbrev pub ImageIs : Type 0 → Type 0 → (ℕ → Type 0) → Shows → Type 0
ImageIs counted opened first Counted = counted
ImageIs counted opened first Open = opened × (counted → ⊥)
ImageIs counted opened first (Other k) = (counted → ⊥) × (opened → ⊥) × first k

-- either of them is shown
abbrev pub IsDue : (Shows → Type 0) → Type 0
IsDue Is = Is Counted ⊎ Is Open

-- P holds of the record with the commit in doubt, and there is one
abbrev pub WithOpen : {S : Type 0} → (S → Type 0) → Option S → Type 0
WithOpen P None = ⊥
WithOpen P (Some s) = P s

-- == a table of cells ==

module _ {R : Type 0} (size cells : ℕ) (reads : ℕ → R → List ℕ → Type 0) (v : View (RowList R)) (image : List ℕ) where
  -- the bytes of cell k show the row that these rows have there
  abbrev pub ShowsAt : ℕ → RowList R → Type 0
  ShowsAt k s = ShowsCell size (reads k) (row_at s k) (bytes_of size k image)

  -- cell k shows neither what was counted of it nor that with the commit in doubt, and each cell before it shows one of them
  pub record IsFirstOther (k : ℕ) : Type 0 where
    pub inside : k < cells
    pub counted : ShowsAt k v.state → ⊥
    pub opened : WithOpen (ShowsAt k) v.next → ⊥
    pub before : (j : ℕ) → j < k → ShowsAt j v.state ⊎ WithOpen (ShowsAt j) v.next

  -- what an image of the table shows
  abbrev pub TableIs : Shows → Type 0
  TableIs shows = ImageIs (ShowsRows size cells reads v.state image) (WithOpen (λ s. ShowsRows size cells reads s image) v.next) IsFirstOther shows

-- == the nodes, as an auditor has them ==

abbrev pub TracedDevice : Type 0
TracedDevice = Traced DeviceRecord State

abbrev pub TracedCentre : Type 0
TracedCentre = Traced CentreRecord Row

abbrev pub TracedHost : Type 0
TracedHost = Traced HostRecord JobRow

abbrev pub TracedVerifier : Type 0
TracedVerifier = Traced ScanRecord Change

-- what is seen of each: the record that counts, that with the commit in doubt, and whether it is on
abbrev pub device_view : TracedDevice → View device_seen.Seen
device_view t = device.view_of t

abbrev pub centre_view : TracedCentre → View centre_seen.Seen
centre_view t = centre.view_of t

abbrev pub host_view : TracedHost → View host_seen.Seen
host_view t = host.view_of t

abbrev pub verifier_view : TracedVerifier → View verifier_seen.Seen
verifier_view t = verifier.view_of t

-- == their storages ==

-- A device has one cell. Its records have to be ones of device d.
abbrev pub DeviceImageIs : ℕ → TracedDevice → List ℕ → Shows → Type 0
DeviceImageIs d t image shows =
    ImageIs (AreSound d (device.seen_of t.record) t.open × ShowsSeen (device.seen_of t.record) image)
    (AreSound d (device.seen_of t.record) t.open × ShowsChanged (device.seen_of t.record) t.open image)
    (λ k. k ≡ 0) shows

-- an image that shows these rows of the table
abbrev pub ShowsCentre : centre_seen.Seen → List ℕ → Type 0
ShowsCentre s image = ShowsRows ROW_BYTES CENTRE_CELLS centre_rows.IsPayloadOf s image

abbrev pub ShowsHost : host_seen.Seen → List ℕ → Type 0
ShowsHost s image = ShowsRows JOB_BYTES HOST_CELLS host_rows.IsPayloadOf s image

abbrev pub ShowsVerifier : verifier_seen.Seen → List ℕ → Type 0
ShowsVerifier s image = ShowsRows BLOCK_BYTES VERIFIER_CELLS verifier_rows.IsPayloadOf s image

abbrev pub CentreImageIs : TracedCentre → List ℕ → Shows → Type 0
CentreImageIs t image shows = TableIs ROW_BYTES CENTRE_CELLS centre_rows.IsPayloadOf (centre_view t) image shows

abbrev pub HostImageIs : TracedHost → List ℕ → Shows → Type 0
HostImageIs t image shows = TableIs JOB_BYTES HOST_CELLS host_rows.IsPayloadOf (host_view t) image shows

abbrev pub VerifierImageIs : TracedVerifier → List ℕ → Shows → Type 0
VerifierImageIs t image shows = TableIs BLOCK_BYTES VERIFIER_CELLS verifier_rows.IsPayloadOf (verifier_view t) image shows
