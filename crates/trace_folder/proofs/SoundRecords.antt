-- What an auditor has of a node is what its storage can show.
use Rattle.std.proofs.Common.{◌≡◌, ℕ, ◌+◌, List, Bool, Option, Some, None, IfSome, option_map, refl, subst, ⊎_elim, arith}
use Rattle.node_acts.specs.RowLaws.{put_counts}
use Rattle.node_acts.specs.Views.{Counting}
use Rattle.psd_state.specs.State.{State}
use Rattle.psd_state.specs.Seen as device_seen
use Rattle.psd_device.specs.Sound as device_node
use Rattle.centre_ledger.specs.declared.rows.Row.{Row}
use Rattle.centre_ledger.specs.Seen as centre_seen
use Rattle.centre_protocol.specs.Cells as centre_cells
use Rattle.centre_protocol.specs.Sound as centre_node
use Rattle.centre_protocol.specs.Table.{centre_laws}
use Rattle.host_jobs.specs.declared.rows.JobRow.{JobRow}
use Rattle.host_jobs.specs.Seen as host_seen
use Rattle.host_jobs.specs.Soundness.{AreSound}
use Rattle.host_node.specs.Cells as host_cells
use Rattle.host_node.specs.Table.{host_laws}
use Rattle.verifier.specs.declared.acts.Change.{Change}
use Rattle.verifier.specs.Seen as verifier_seen
use Rattle.verifier_node.specs.Table.{verifier_laws}
use Rattle.node_images.specs.Devices as devices
use Rattle.trace_nodes.specs.declared.traced.Traced.{Traced}
use Rattle.trace_device.specs.declared.record.DeviceRecord.{DeviceRecord}
use Rattle.trace_device.specs.Records as device
use Rattle.trace_centre.specs.declared.record.CentreRecord.{CentreRecord}
use Rattle.trace_centre.specs.Cells as centre
use Rattle.trace_host.specs.declared.record.HostRecord.{HostRecord}
use Rattle.trace_host.specs.Cells as host
use Rattle.trace_verifier.specs.declared.record.ScanRecord.{ScanRecord}
use Rattle.trace_verifier.specs.Cells as verifier
use Rattle.trace_folder.specs.Images.{IsDue, DeviceImageIs}
use Rattle.trace_folder.specs.Sound.{AreSoundRecords}

-- a sound record with a change that leaves it sound
module _ {S X : Type 0} (n : Counting S X) (IsSound : S → Type 0) (s : S) (sound : IsSound s) where
  -- what holds of the record with each such change
  pub record Stays (x : X) : Type 0 where
    pub after : IsSound (n.after s x)
    pub counts : n.count (n.after s x) ≡ n.count s + 1

  next_sound : (o : Option X) → IfSome o Stays → IfSome (option_map (λ x. n.after s x) o) IsSound
  next_sound None stays = tt
  next_sound (Some x) stays = stays.after

  next_counts : (o : Option X) → IfSome o Stays → IfSome (option_map (λ x. n.after s x) o) (λ t. n.count t ≡ n.count s + 1)
  next_counts None stays = tt
  next_counts (Some x) stays = stays.counts

  pub sound_records : (o : Option X) (on : Bool) → IfSome o Stays → AreSoundRecords n IsSound (record { state = s; next = option_map (λ x. n.after s x) o; on = on })
  sound_records o on stays = record { state = sound; next = next_sound o stays; more = next_counts o stays }

pub some_as : {X : Type 0} (P Q : X → Type 0) (o : Option X) → ((x : X) → P x → Q x) → IfSome o P → IfSome o Q
some_as P Q None each is = tt
some_as P Q (Some x) each is = each x is

-- == the device, by what an image shows ==

device_by : (d : ℕ) (t : Traced DeviceRecord State) → devices.AreSound d (device.seen_of t.record) t.open → AreSoundRecords device_seen.counting (device_node.IsSound d) (device.view_of t)
device_by d t sound =
    sound_records device_seen.counting (device_node.IsSound d) (device.seen_of t.record) sound.state t.open t.on
    (some_as _ _ t.open (λ x is. record { after = is; counts = refl }) sound.next)

pub device_sound : (d : ℕ) (t : Traced DeviceRecord State) (image : List ℕ) → IsDue (DeviceImageIs d t image) → AreSoundRecords device_seen.counting (device_node.IsSound d) (device.view_of t)
device_sound d t image due = ⊎_elim (λ counted. device_by d t counted.0) (λ opened. device_by d t opened.0.0) due

-- == the tables ==

pub centre_sound : (t : Traced CentreRecord Row) → centre.IsSettled t → centre_node.IsSound (centre.cells_of t.record) → AreSoundRecords centre_seen.counting centre_node.IsSound (centre.view_of t)
centre_sound t settled sound =
    let s = centre.cells_of t.record in
    sound_records centre_seen.counting centre_node.IsSound s sound t.open t.on
    (some_as _ _ t.open (λ x can. record {
      after = centre_laws.stays_sound s x sound can.fits.has can.fits.sound can.room;
      counts = put_counts s (centre_seen.cell_of x) x (omega (arith, centre_cells.cell_inside x can.fits.has, sound.known.long));
    }) settled.takes)

host_known : (r : HostRecord) → host_seen.IsKnown (host.cells_of r)
host_known r = record { long = r.joined.long; few = r.joined.few; sound = subst AreSound r.joined.jobs_are r.follows.sound }

pub host_sound : (t : Traced HostRecord JobRow) → host.IsSettled t → AreSoundRecords host_seen.counting host_seen.IsKnown (host.view_of t)
host_sound t settled =
    let s = host.cells_of t.record in
    let known = host_known t.record in
    sound_records host_seen.counting host_seen.IsKnown s known t.open t.on
    (some_as _ _ t.open (λ x can. record {
      after = host_laws.stays_sound s x known tt can.fits can.room;
      counts = put_counts s (host_seen.cell_of x) x (omega (arith, host_cells.cell_inside x, known.long));
    }) settled.takes)

pub verifier_sound : (t : Traced ScanRecord Change) → verifier.IsSettled t → AreSoundRecords verifier_seen.counting verifier_seen.IsKnown (verifier.view_of t)
verifier_sound t settled =
    let s = verifier.cells_of t.record in
    let known : verifier_seen.IsKnown s = record { sound = t.record.kept.sound; few = t.record.kept.few } in
    sound_records verifier_seen.counting verifier_seen.IsKnown s known t.open t.on
    (some_as _ _ t.open (λ x can. record {
      after = verifier_laws.stays_sound s x known can.fits.inside can.fits can.room;
      counts = put_counts s (verifier_seen.cell_of x) (verifier_seen.row_with s x) (omega (arith, can.fits.inside, known.sound.long));
    }) settled.takes)
