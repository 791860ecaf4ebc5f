-- Blank storages show what an auditor of nothing has.
use Rattle.std.proofs.Common.{◌≡◌, inl, ℕ, List, [], Option, Some, None, Bool, true, false, replicate, IfSome, option_map, refl, sym, ◌∙◌, ap, subst, arith}
use Rattle.std.specs.Prelude.{nat_lt}
use Rattle.bench_base.specs.declared.{words.Node.TheVariants.Device, words.Node.TheVariants.Centre, words.Node.TheVariants.Host, words.Node.TheVariants.Verifier, sizes.TheConstants.RECORD_BYTES, sizes.TheConstants.SLOTS, sizes.TheConstants.DEVICE_BYTES, sizes.TheConstants.ROW_BYTES, sizes.TheConstants.CENTRE_CELLS, sizes.TheConstants.CENTRE_BYTES, sizes.TheConstants.BLOCK_BYTES, sizes.TheConstants.VERIFIER_CELLS, sizes.TheConstants.VERIFIER_BYTES}
use Rattle.host_jobs.specs.declared.sizes.TheConstants.{JOB_BYTES, HOST_CELLS, HOST_BYTES}
use Rattle.nv_model.specs.declared.nv.Nv as nv
use Rattle.node_acts.specs.Kinds.{view_in}
use Rattle.node_acts.specs.RowList.{RowList, row_at}
use Rattle.node_acts.specs.Views.{View}
use Rattle.node_acts.proofs.Blanks.{none_at}
use Rattle.row_node.proofs.Blank.{blank_shown, zeros_show}
use Rattle.psd_state.specs.State.{State}
use Rattle.psd_state.specs.Seen as device_seen
use Rattle.psd_device.specs.Knows.{shown_as}
use Rattle.psd_device.specs.Shown.{ShowsSeen}
use Rattle.psd_device.specs.Sound.{IsSound}
use Rattle.centre_protocol.specs.Payloads as centre_rows
use Rattle.host_jobs.proofs.Seeing as host_seeing
use Rattle.host_node.specs.Payloads as host_rows
use Rattle.verifier.specs.Payload as verifier_rows
use Rattle.verifier.proofs.LawActs.{follows}
use Rattle.bench_abstraction.specs.Centre.{cell_after}
use Rattle.bench_abstraction.specs.Kinds.{bench_kinds}
use Rattle.bench.specs.Benches.{IsBlank}
use Rattle.trace_folder.specs.declared.shows.Shows.{Shows}
use Rattle.trace_folder.specs.declared.shows.Shows.TheVariants as shows
use Rattle.trace_folder.specs.Images.{TracedDevice, TracedCentre, TracedHost, TracedVerifier, device_view, centre_view, host_view, verifier_view, DeviceImageIs, CentreImageIs, HostImageIs, VerifierImageIs}
use Rattle.folder_laws.specs.Folders.{ShowsNode}

pub blank_node : {T : Type 0} (h : nv.Ghosts T) (bytes : ℕ) (Is : List ℕ → Shows → Type 0) (store : T) → IsBlank h bytes store → Is (replicate bytes 0) shows.Counted → ShowsNode h bytes Is store
blank_node h bytes Is store blank counted = record { size = blank.size; image = replicate bytes 0; only = blank.zeros; shows = inl counted }

-- == devices ==

none_open : {X S : Type 0} (f : X → S) (o : Option X) → option_map f o ≡ None → o ≡ None
none_open f None is = refl
none_open f (Some x) is = cc is

abbrev none_made : device_seen.Seen
none_made = record { count = 0; state = None }

none_sound : (d : ℕ) → IsSound d none_made
none_sound d = record { few = omega arith; blank = (λ e. refl, λ e. refl); own = tt }

none_shown : ShowsSeen none_made (replicate DEVICE_BYTES 0)
none_shown = shown_as 0 None None (replicate DEVICE_BYTES 0) refl (zeros_show RECORD_BYTES SLOTS 1 DEVICE_BYTES)

pub device_blank : (d : ℕ) (t : TracedDevice) → device_view t ≡ view_in (Device d) (bench_kinds.devices.seen d) [] → DeviceImageIs d t (replicate DEVICE_BYTES 0) shows.Counted
device_blank d t same = (
  record {
    state = subst (IsSound d) (sym state) (none_sound d);
    next = subst (λ (o : Option State). IfSome o (λ x. IsSound d (device_seen.counting.after (device_view t).state x))) (sym closed) tt;
  },
  subst (λ (s : device_seen.Seen). ShowsSeen s (replicate DEVICE_BYTES 0)) (sym state) none_shown,
)
  where
    state : (device_view t).state ≡ none_made
    state = ap (λ (v : View device_seen.Seen). v.state) same

    closed : t.open ≡ None
    closed = none_open (λ x. device_seen.counting.after (device_view t).state x) t.open (ap (λ (v : View device_seen.Seen). v.next) same)

-- == tables ==

rows_none : {R : Type 0} (v w : View (RowList R)) → v ≡ w → ((k : ℕ) → row_at w.state k ≡ None) → (k : ℕ) → row_at v.state k ≡ None
rows_none {R} v w same none k = ap (λ (u : View (RowList R)). row_at u.state k) same ∙ none k

no_cell : (k : ℕ) → cell_after k [] ≡ None
no_cell k = by (nat_lt k 8) refl
  where
    by : (low : Bool) → nat_lt k 8 ≡ low → cell_after k [] ≡ None
    by true is = rw is refl
    by false is = rw is refl

pub centre_blank : (t : TracedCentre) → centre_view t ≡ view_in Centre (bench_kinds.centre.seen tt) [] → CentreImageIs t (replicate CENTRE_BYTES 0) shows.Counted
centre_blank t same =
    blank_shown (centre_view t).state (rows_none (centre_view t) (view_in Centre (bench_kinds.centre.seen tt) []) same (none_at CENTRE_CELLS (λ j. cell_after j []) no_cell))
    ROW_BYTES CENTRE_CELLS CENTRE_BYTES centre_rows.IsPayloadOf

pub host_blank : (t : TracedHost) → host_view t ≡ view_in Host (bench_kinds.host.seen tt) [] → HostImageIs t (replicate HOST_BYTES 0) shows.Counted
host_blank t same =
    blank_shown (host_view t).state (rows_none (host_view t) (view_in Host (bench_kinds.host.seen tt) []) same host_seeing.blank)
    JOB_BYTES HOST_CELLS HOST_BYTES host_rows.IsPayloadOf

pub verifier_blank : (t : TracedVerifier) → verifier_view t ≡ view_in Verifier (bench_kinds.verifier.seen tt) [] → VerifierImageIs t (replicate VERIFIER_BYTES 0) shows.Counted
verifier_blank t same =
    blank_shown (verifier_view t).state (rows_none (verifier_view t) (view_in Verifier (bench_kinds.verifier.seen tt) []) same follows.none)
    BLOCK_BYTES VERIFIER_CELLS VERIFIER_BYTES verifier_rows.IsPayloadOf
