-- What an auditor sees as a run begins, and before any line was judged.
use Rattle.std.proofs.Common.{◌≡◌, ℕ, ◌+◌, List, [], ◌∷◌, length, None, false, refl, ◌∙◌, ap}
use Rattle.bench_base.specs.declared.ledger.Entry.TheVariants.{Begin}
use Rattle.bench_base.specs.Ledger.{Ledger}
use Rattle.node_acts.specs.Views.{View}
use Rattle.psd_state.specs.State.{State}
use Rattle.psd_state.specs.Seen as device_seen
use Rattle.centre_ledger.specs.Seen as centre_seen
use Rattle.host_jobs.specs.Seen as host_seen
use Rattle.verifier.specs.Seen as verifier_seen
use Rattle.centre_ledger.specs.declared.rows.Row.{Row}
use Rattle.host_jobs.specs.declared.rows.JobRow.{JobRow}
use Rattle.verifier.specs.declared.acts.Change.{Change}
use Rattle.trace_nodes.specs.declared.traced.Traced.{Traced}
use Rattle.trace_device.specs.declared.record.DeviceRecord.{DeviceRecord}
use Rattle.trace_device.specs.Records as device
use Rattle.trace_centre.specs.declared.record.CentreRecord.{CentreRecord}
use Rattle.trace_host.specs.declared.record.HostRecord.{HostRecord}
use Rattle.trace_verifier.specs.declared.record.ScanRecord.{ScanRecord}
use Rattle.trace_bench.specs.Beginning.{shut, AreShut, AreBlank, IsBlankCentre, IsBlankHost, IsBlankVerifier}
use Rattle.trace_bench.specs.declared.known.Known.{Known}
use Rattle.trace_bench.specs.Known.{IsBlank}
use Rattle.trace_bench.specs.Seeing.{Audit, IsReady, Sees, SeesRun}
use Rattle.trace_bench.proofs.Keeping.{knows_begun, knows_blank}

-- a node that is seen so, switched off
abbrev pub off : {S : Type 0} → View S → View S
off v = record v { on = false }

-- with these devices and messages, all nodes off, and no day
abbrev pub begun : Audit → List (Traced DeviceRecord State) → List (List ℕ) → Audit
begun a devices messages = record {
  day = None;
  messages = messages;
  rates = None;
  devices = devices;
  centre = shut a.centre;
  host = shut a.host;
  verifier = shut a.verifier;
  known = a.known;
}

begun_run : (a : Audit) (devices : List (Traced DeviceRecord State)) (messages : List (List ℕ)) → AreShut a.devices devices → messages ≡ [] → (H : Ledger) → SeesRun a H → SeesRun (begun a devices messages) (Begin ∷ H)
begun_run a devices messages shut_are none H sees = record {
  day = record { day = refl; messages = none; rates = tt };
  devices = λ i t at.
      let w = shut_are.each i t at in
      ap (λ (s : Traced DeviceRecord State). device.view_of s) w.2 ∙ ap (λ (v : View device_seen.Seen). off v) (sees.devices i w.0 w.1);
  centre = ap (λ (v : View centre_seen.Seen). off v) sees.centre;
  host = ap (λ (v : View host_seen.Seen). off v) sees.host;
  verifier = ap (λ (v : View verifier_seen.Seen). off v) sees.verifier;
}

pub begun_sees : (a : Audit) (devices : List (Traced DeviceRecord State)) (messages : List (List ℕ)) → AreShut a.devices devices → messages ≡ [] → (H : Ledger) → Sees a H → Sees (begun a devices messages) (Begin ∷ H)
begun_sees a devices messages shut_are none H sees = record { run = begun_run a devices messages shut_are none H sees.run; known = knows_begun a.known H sees.known }

module _ (devices : List (Traced DeviceRecord State)) (c : Traced CentreRecord Row) (h : Traced HostRecord JobRow) (v : Traced ScanRecord Change) (messages : List (List ℕ)) (k : Known) where
  abbrev pub of_blank : Audit
  of_blank = record { day = None; messages = messages; rates = None; devices = devices; centre = c; host = h; verifier = v; known = k }

  pub blank_ready : length devices ≡ 8 → AreBlank devices → IsBlankCentre c → IsBlankHost h → IsBlankVerifier v → IsReady of_blank
  blank_ready eight blank centre host verifier = record {
    eight = eight;
    devices = λ i s at. (blank i s at).settled;
    centre = centre.settled;
    host = host.settled;
    verifier = verifier.settled;
  }

  blank_run : messages ≡ [] → AreBlank devices → IsBlankCentre c → IsBlankHost h → IsBlankVerifier v → SeesRun of_blank []
  blank_run none blank centre host verifier = record {
    day = record { day = refl; messages = none; rates = tt };
    devices = λ i s at. (blank i s at).blank (i + 1);
    centre = centre.blank;
    host = host.blank;
    verifier = verifier.blank;
  }

  pub blank_sees : messages ≡ [] → IsBlank k → AreBlank devices → IsBlankCentre c → IsBlankHost h → IsBlankVerifier v → Sees of_blank []
  blank_sees none unknown blank centre host verifier = record { run = blank_run none blank centre host verifier; known = knows_blank k unknown }
