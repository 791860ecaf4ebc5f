use Rattle.std.proofs.Common.{refl, subst}
use Rattle.bench_base.specs.declared.sizes.TheConstants.{DEVICE_BYTES, CENTRE_BYTES, VERIFIER_BYTES}
use Rattle.host_jobs.specs.declared.sizes.TheConstants.{HOST_BYTES}
use Rattle.psd_device.specs.Shown.{ShowsSeen}
use Rattle.centre_ledger.specs.Seen as centre_seen
use Rattle.centre_protocol.specs.Sound as centre_node
use Rattle.host_jobs.specs.Seen as host_seen
use Rattle.verifier.specs.Seen as verifier_seen
use Rattle.trace_folder.specs.Images.{TracedCentre, TracedHost, TracedVerifier, device_view, centre_view, host_view, verifier_view, DeviceImageIs, ShowsCentre, CentreImageIs, ShowsHost, HostImageIs, ShowsVerifier, VerifierImageIs}
use Rattle.trace_folder.specs.Sound.{AreSoundRecords}
use Rattle.trace_bench.specs.Seeing.{audit_of}
use Rattle.folder_laws.proofs.Stands.{due_or, device_due, store_stands, all_stand}
use Rattle.folder_laws.proofs.folder.folder_stands.Goals as goal

pub returns-clause-stands : goal.returns-clause-stands
returns-clause-stands g c H stores sees between folder =
    let a = audit_of c.args.auditor.now in
    all_stand _ a H stores (record {
      device = λ d t store same shown.
          let sound = c.devices_are_sound.ensures d t shown.image shown.shows in
          store_stands _ _ d (device_view t) _ store DEVICE_BYTES (DeviceImageIs d t) ShowsSeen same refl (record { state = sound.state; next = sound.next; more = sound.more })
          (λ s image is. is) (device_due d t) shown;
      centre = λ store shown.
          let sound = subst (λ (t : TracedCentre). AreSoundRecords centre_seen.counting centre_node.IsSound (centre_view t)) c.centre_node.ensures c.centre_is_sound.ensures in
          store_stands _ _ tt (centre_view a.centre) _ store CENTRE_BYTES (CentreImageIs a.centre) ShowsCentre sees.run.centre refl
          (record { state = sound.state; next = sound.next; more = sound.more }) (λ s image is. is) (λ image due. due_or _ _ (CentreImageIs a.centre image) (λ x. x) (λ x. x) due) shown;
      host = λ store shown.
          let sound = subst (λ (t : TracedHost). AreSoundRecords host_seen.counting host_seen.IsKnown (host_view t)) c.host_node.ensures c.host_is_sound.ensures in
          store_stands _ _ tt (host_view a.host) _ store HOST_BYTES (HostImageIs a.host) ShowsHost sees.run.host refl
          (record { state = sound.state; next = sound.next; more = sound.more }) (λ s image is. is) (λ image due. due_or _ _ (HostImageIs a.host image) (λ x. x) (λ x. x) due) shown;
      verifier = λ store shown.
          let sound = subst (λ (t : TracedVerifier). AreSoundRecords verifier_seen.counting verifier_seen.IsKnown (verifier_view t)) c.verifier_node.ensures c.verifier_is_sound.ensures in
          store_stands _ _ tt (verifier_view a.verifier) _ store VERIFIER_BYTES (VerifierImageIs a.verifier) ShowsVerifier sees.run.verifier refl
          (record { state = sound.state; next = sound.next; more = sound.more }) (λ s image is. is) (λ image due. due_or _ _ (VerifierImageIs a.verifier image) (λ x. x) (λ x. x) due) shown;
    }) c.requires.ready sees between folder

pub returns-clause-begun : goal.returns-clause-begun
returns-clause-begun g c H = record { day = record { day = refl; messages = refl; rates = tt }; off = λ m. refl }
