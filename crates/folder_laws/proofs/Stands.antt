-- Storages that show what an auditor has represent what it sees.
use Rattle.std.proofs.Common.{◌≡◌, ◌⊎◌, inl, inr, ℕ, zero, suc, ◌+◌, ◌<◌, List, [], ◌∷◌, Option, Some, None, option_map, length, refl, sym, ◌∙◌, subst, arith}
use Rattle.std.specs.Prelude.{slice_get}
use Rattle.std.proofs.lemmas.Option.{slice_get_within, same_Some}
use Rattle.bench_base.specs.declared.{words.Node.Node, words.Node.TheVariants.Device, words.Node.TheVariants.Centre, words.Node.TheVariants.Host, words.Node.TheVariants.Verifier, sizes.TheConstants.DEVICE_BYTES, sizes.TheConstants.CENTRE_BYTES, sizes.TheConstants.VERIFIER_BYTES}
use Rattle.host_jobs.specs.declared.sizes.TheConstants.{HOST_BYTES}
use Rattle.bench_base.specs.Ledger.{Ledger}
use Rattle.nv_model.specs.declared.nv.Nv as nv
use Rattle.node_acts.specs.Kinds.{view_in}
use Rattle.node_acts.specs.Views.{View}
use Rattle.node_storage.specs.declared.node.Node.{Ghosts}
use Rattle.node_storage.specs.Shown.{Allowed, ShowsNext, Sound}
use Rattle.node_storage.specs.Stands.{StoreStands}
use Rattle.psd_state.specs.State.{State}
use Rattle.psd_state.specs.Seen as device_seen
use Rattle.psd_device.specs.Shown.{ShowsSeen}
use Rattle.node_images.specs.Devices.{ShowsChanged}
use Rattle.bench_abstraction.specs.Kinds.{bench_kinds}
use Rattle.bench.specs.Benches.{Nodes, Places, StoreStandsOff, StoresStand, store_of}
use Rattle.trace_folder.specs.declared.shows.Shows.{Shows}
use Rattle.trace_folder.specs.declared.shows.Shows.TheVariants as shows
use Rattle.trace_folder.specs.Images.{TracedDevice, device_view, IsDue, WithOpen, DeviceImageIs, CentreImageIs, HostImageIs, VerifierImageIs}
use Rattle.trace_bench.specs.Seeing.{Audit, IsReady, Sees}
use Rattle.folder_laws.specs.Folders.{IsBetweenRuns, ShowsNode, IsFolder}

-- == one storage ==

-- an image that is due shows what was counted, or that and the commit in doubt
pub due_or : (c o : Type 0) (Is : Shows → Type 0) → (Is shows.Counted → c) → (Is shows.Open → o × (c → ⊥)) → IsDue Is → c ⊎ o
due_or c o Is counts opens (inl counted) = inl (counts counted)
due_or c o Is counts opens (inr opened) = inr (opens opened).0

changed_next : (s : device_seen.Seen) (o : Option State) (image : List ℕ) → ShowsChanged s o image
    → WithOpen (λ t. ShowsSeen t image) (option_map (λ x. device_seen.counting.after s x) o)
changed_next s None image shown = absurd shown
changed_next s (Some x) image shown = shown

pub device_due : (d : ℕ) (t : TracedDevice) (image : List ℕ) → IsDue (DeviceImageIs d t image)
    → ShowsSeen (device_view t).state image ⊎ WithOpen (λ s. ShowsSeen s image) (device_view t).next
device_due d t image (inl counted) = inl counted.1
device_due d t image (inr opened) = inr (changed_next (device_view t).state t.open image opened.0.1)

module _ {K S N C R T : Type 0} (n : Ghosts K S N C R) (h : nv.Ghosts T) (d : N) (v w : View n.Seen) (store : T) where
  next_shown : (P : n.Seen → List ℕ → Type 0) (image : List ℕ) → ((s : n.Seen) → P s image → n.IsShown s image) → (next : Option n.Seen) → WithOpen (λ s. P s image) next
      → ShowsNext n next image
  next_shown P image each None shown = absurd shown
  next_shown P image each (Some s) shown = each s shown

  allowed : (P : n.Seen → List ℕ → Type 0) (image : List ℕ) → ((s : n.Seen) → P s image → n.IsShown s image) → P v.state image ⊎ WithOpen (λ s. P s image) v.next → Allowed n v image
  allowed P image each (inl counted) = inl (each v.state counted)
  allowed P image each (inr opened) = inr (next_shown P image each v.next opened)

  -- a storage that shows a view of the node that is the ledger's
  pub store_stands : (bytes : ℕ) (Is : List ℕ → Shows → Type 0) (P : n.Seen → List ℕ → Type 0) → v ≡ w → n.bytes ≡ bytes → Sound n d v
      → ((s : n.Seen) (image : List ℕ) → P s image → n.IsShown s image)
      → ((image : List ℕ) → IsDue (Is image) → P v.state image ⊎ WithOpen (λ s. P s image) v.next)
      → ShowsNode h bytes Is store → StoreStands n h d w store
  store_stands bytes Is P same size sound each due shown = subst (λ (u : View n.Seen). StoreStands n h d u store) same (record {
    size = shown.size ∙ sym size;
    sound = λ tells. sound;
    shows = λ tells image held. subst (λ (c : List ℕ). Allowed n v c) (sym (shown.only tells image held)) (allowed P shown.image (λ s. each s shown.image) (due shown.image shown.shows));
  })

-- == all storages ==

-- a storage that shows what the auditor has of its node represents what it sees of the node in the ledger
pub record EachStands (n : Nodes) (a : Audit) (H : Ledger) : Type 0 where
  pub device : (d : ℕ) (t : TracedDevice) (store : n.Inner) → device_view t ≡ view_in (Device d) (bench_kinds.devices.seen d) H
      → ShowsNode n.inner DEVICE_BYTES (DeviceImageIs d t) store → StoreStands n.devices n.inner d (view_in (Device d) (n.kinds.devices.seen d) H) store
  pub centre : (store : n.Inner) → ShowsNode n.inner CENTRE_BYTES (CentreImageIs a.centre) store
      → StoreStands n.centre n.inner tt (view_in Centre (n.kinds.centre.seen tt) H) store
  pub host : (store : n.Inner) → ShowsNode n.inner HOST_BYTES (HostImageIs a.host) store → StoreStands n.host n.inner tt (view_in Host (n.kinds.host.seen tt) H) store
  pub verifier : (store : n.Inner) → ShowsNode n.inner VERIFIER_BYTES (VerifierImageIs a.verifier) store
      → StoreStands n.verifier n.inner tt (view_in Verifier (n.kinds.verifier.seen tt) H) store

module _ {A : Type 0} where
  -- there is an item at each place within
  item_at : (xs : List A) (i : ℕ) → i < length xs → (x : A) × (slice_get xs i ≡ Some x)
  item_at [] i inside = absurd (omega (arith, inside))
  item_at (x ∷ xs) zero inside = (x, refl)
  item_at (x ∷ xs) (suc i) inside = item_at xs i (omega (arith, inside))

plus_one : (i : ℕ) → i + 1 ≡ suc i
plus_one i = omega arith

pub all_stand : (n : Nodes) (a : Audit) (H : Ledger) (stores : Places n.Inner) → EachStands n a H → IsReady a → Sees a H → IsBetweenRuns H → IsFolder n.inner a stores → StoresStand n stores H
all_stand n a H stores stand ready sees between folder = record { day = between.day; nodes = each }
  where
    a_device : (i : ℕ) (store : n.Inner) → slice_get stores.devices i ≡ Some store → StoreStands n.devices n.inner (i + 1) (view_in (Device (i + 1)) (n.kinds.devices.seen (i + 1)) H) store
    a_device i store at =
        let known = item_at a.devices i (omega (arith, slice_get_within stores.devices i store at, folder.eight, ready.eight)) in
        stand.device (i + 1) known.0 store (sees.run.devices i known.0 known.1) (folder.devices i known.0 store known.1 at)

    each : (m : Node) (store : n.Inner) → store_of stores m ≡ Some store → StoreStandsOff n H store m
    each (Device zero) store at = absurd (cc)
    each (Device (suc i)) store at = (
      between.off (Device (suc i)),
      subst (λ (d : ℕ). StoreStands n.devices n.inner d (view_in (Device d) (n.kinds.devices.seen d) H) store) (plus_one i) (a_device i store at),
    )
    each Centre store at = (
      between.off Centre,
      stand.centre store (subst (ShowsNode n.inner CENTRE_BYTES (CentreImageIs a.centre)) (same_Some stores.centre store at) folder.centre),
    )
    each Host store at = (
      between.off Host,
      stand.host store (subst (ShowsNode n.inner HOST_BYTES (HostImageIs a.host)) (same_Some stores.host store at) folder.host),
    )
    each Verifier store at = (
      between.off Verifier,
      stand.verifier store (subst (ShowsNode n.inner VERIFIER_BYTES (VerifierImageIs a.verifier)) (same_Some stores.verifier store at) folder.verifier),
    )
