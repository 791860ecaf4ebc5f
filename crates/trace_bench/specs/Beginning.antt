-- Nodes about which nothing is known, and nodes that were switched off as a run begins.
use Rattle.std.specs.Prelude.{◌≡◌, ℕ, List, [], length, Some, false, slice_get, slice_set}
use Rattle.bench_base.specs.declared.words.Node.TheVariants.{Device, Centre, Host, Verifier}
use Rattle.node_acts.specs.Kinds.{view_in}
use Rattle.psd_state.specs.State.{State}
use Rattle.centre_ledger.specs.declared.rows.Row.{Row}
use Rattle.host_jobs.specs.declared.rows.JobRow.{JobRow}
use Rattle.verifier.specs.declared.acts.Change.{Change}
use Rattle.bench_abstraction.specs.Kinds.{bench_kinds}
use Rattle.trace_nodes.specs.declared.traced.Traced.{Traced}
use Rattle.trace_device.specs.declared.record.DeviceRecord.{DeviceRecord}
use Rattle.trace_device.specs.Records as device
use Rattle.trace_centre.specs.declared.record.CentreRecord.{CentreRecord}
use Rattle.trace_centre.specs.Cells as centre
use Rattle.trace_host.specs.declared.record.HostRecord.{HostRecord}
use Rattle.trace_host.specs.Cells as host
use Rattle.trace_verifier.specs.declared.record.ScanRecord.{ScanRecord}
use Rattle.trace_verifier.specs.Cells as verifier

-- == blank nodes: as the empty ledger shows them, with no change open ==

pub record IsBlankDevice (s : Traced DeviceRecord State) : Type 0 where
  pub settled : device.IsSettled s
  pub blank : (d : ℕ) → device.view_of s ≡ view_in (Device d) (bench_kinds.devices.seen d) []

pub record IsBlankCentre (s : Traced CentreRecord Row) : Type 0 where
  pub settled : centre.IsSettled s
  pub blank : centre.view_of s ≡ view_in Centre (bench_kinds.centre.seen tt) []

pub record IsBlankHost (s : Traced HostRecord JobRow) : Type 0 where
  pub settled : host.IsSettled s
  pub blank : host.view_of s ≡ view_in Host (bench_kinds.host.seen tt) []

pub record IsBlankVerifier (s : Traced ScanRecord Change) : Type 0 where
  pub settled : verifier.IsSettled s
  pub blank : verifier.view_of s ≡ view_in Verifier (bench_kinds.verifier.seen tt) []

abbrev pub AreBlank : List (Traced DeviceRecord State) → Type 0
AreBlank devices = (i : ℕ) (s : Traced DeviceRecord State) → slice_get devices i ≡ Some s → IsBlankDevice s

-- == nodes that are switched off ==

-- a node that is off, and otherwise as it was
abbrev pub shut : {R X : Type 0} → Traced R X → Traced R X
shut s = record s { on = false }

pub record ShutsAt (place : ℕ) (old new : List (Traced DeviceRecord State)) : Type 0 where
  pub was : Traced DeviceRecord State
  pub at : slice_get old place ≡ Some was
  pub set : new ≡ slice_set old place (shut was)

-- each device is off, and otherwise as it was
pub record AreShut (old new : List (Traced DeviceRecord State)) : Type 0 where
  pub size : length new ≡ length old
  pub each : (i : ℕ) (t : Traced DeviceRecord State) → slice_get new i ≡ Some t
      → (s : Traced DeviceRecord State) × (slice_get old i ≡ Some s) × (t ≡ shut s)
