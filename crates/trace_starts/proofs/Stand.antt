-- What storages represent, by an image that they may have.
use Rattle.std.proofs.Common.{◌≡◌, inl, inr, ℕ, zero, suc, ◌+◌, ◌<◌, List, [], ◌∷◌, length, Option, Some, None, Bool, true, false, IsTrue, refl, sym, ◌∙◌, ap, subst, true≢false, arith}
use Rattle.std.specs.Prelude.{slice_get, option_map}
use Rattle.bench_base.specs.declared.{words.Node.Node, words.Node.TheVariants.Device, words.Node.TheVariants.Centre, words.Node.TheVariants.Host, words.Node.TheVariants.Verifier, ledger.Commit.Commit}
use Rattle.bench_base.specs.Ledger.{Ledger, torn_of, is_on, counted, rates_in}
use Rattle.nv_model.specs.declared.nv.Nv as nv
use Rattle.nv_model.specs.Moments.{Image}
use Rattle.node_acts.specs.Views.{View}
use Rattle.node_acts.specs.Kinds.{view_in}
use Rattle.node_storage.specs.declared.node.Node.{Ghosts}
use Rattle.node_storage.specs.Shown.{ShowsNext}
use Rattle.node_storage.specs.Stands.{StoreStands}
use Rattle.host_rates.specs.Tables.{RateTable}
use Rattle.host_rates.specs.Tariffs.{Keeps}
use Rattle.debit_laws.specs.Debits.{IsDebited}
use Rattle.bench_abstraction.specs.Kinds.{bench_kinds}
use Rattle.bench.specs.Benches.{HasDay, Nodes, Places, StoresStand, StoreStandsOff}
use Rattle.psd_state.specs.State.{State}
use Rattle.trace_nodes.specs.declared.traced.Traced.{Traced}
use Rattle.trace_device.specs.declared.record.DeviceRecord.{DeviceRecord}
use Rattle.trace_device.specs.Records as device
use Rattle.trace_centre.specs.declared.record.CentreRecord.{CentreRecord}
use Rattle.trace_centre.specs.Cells as centre
use Rattle.trace_host.specs.declared.record.HostRecord.{HostRecord}
use Rattle.trace_host.specs.Cells as host
use Rattle.trace_verifier.specs.declared.record.ScanRecord.{ScanRecord}
use Rattle.trace_verifier.specs.Cells as verifier
use Rattle.trace_seen.proofs.Telling.{tells_none}
use Rattle.trace_bench.specs.declared.known.Known.{Known}
use Rattle.trace_bench.specs.Known.{Kept, Knows, IsBlank, kept_of}
use Rattle.trace_bench.specs.Seeing.{Audit, Sees}
use Rattle.trace_bench.specs.Starting.{StartsFrom}
use Rattle.trace_bench.proofs.Starts.{rests_at}

-- a node that is seen so, off and with no commit open
abbrev pub rested : {S : Type 0} → S → View S
rested s = record { state = s; next = None; on = false }

view_same : {S : Type 0} (s : S) (v : View S) → s ≡ v.state → v.next ≡ None → v.on ≡ false → rested s ≡ v
view_same {S} s v state next on =
    ap (λ (t : S). rested t) state ∙ ap (λ (o : Option S). with_next o) (sym next) ∙ ap (λ (b : Bool). with_on b) (sym on)
  where
    with_next : Option S → View S
    with_next o = record { state = v.state; next = o; on = false }

    with_on : Bool → View S
    with_on b = record { state = v.state; next = v.next; on = b }

-- == one node, of any kind ==

module _ {K S N C R T : Type 0} (n : Ghosts K S N C R) (h : nv.Ghosts T) (seen : List Commit → n.Seen) (m : Node) (d : N) (image : List ℕ) (store : T) (H : Ledger)
    (tells : h.tells) (has : Image (h.times store) image) (closed : torn_of m H ≡ None) (stands : (is_on m H ≡ false) × StoreStands n h d (view_in m seen H) store) where
  none_next : (view_in m seen H).next ≡ None
  none_next = ap (λ (o : Option Commit). option_map (λ c. seen (c ∷ counted H)) o) closed

  shown : n.IsShown (seen (counted H)) image
  shown = elim (stands.1.shows tells image has) [
    | inl state ↦ state
    | inr next ↦ absurd (subst (λ (o : Option n.Seen). ShowsNext n o image) none_next next)
  ]

  -- the record that the image shows is what is seen of the node
  pub node_seen : ((a b : n.Seen) → n.IsSound d a → n.IsSound d b → n.IsShown a image → n.IsShown b image → a ≡ b) → (s : n.Seen) → n.IsSound d s → n.IsShown s image
      → rested s ≡ view_in m seen H
  node_seen one s sound shows = view_same s (view_in m seen H) (one s (seen (counted H)) sound (stands.1.sound tells).state shows shown) none_next stands.0

  -- so the image shows a record
  pub node_shown : ((s : n.Seen) → n.IsSound d s → n.IsShown s image → ⊥) → ⊥
  node_shown none = none (seen (counted H)) (stands.1.sound tells).state shown

-- == all nodes ==

-- there is a storage in each of the places
pub store_at : {X : Type 0} (xs : List X) (i : ℕ) → i < length xs → (x : X) × (slice_get xs i ≡ Some x)
store_at [] i inside = absurd (omega (arith, inside))
store_at (x ∷ xs) zero inside = (x, refl)
store_at (x ∷ xs) (suc i) inside = store_at xs i (omega (arith, inside))

pub device_off : (n : Nodes) (stores : Places n.Inner) (L : Ledger) → StoresStand n stores L → (i : ℕ) (store : n.Inner) → slice_get stores.devices i ≡ Some store
    → StoreStandsOff n L store (Device (i + 1))
device_off n stores L stand i store at = subst (λ (d : ℕ). StoreStandsOff n L store (Device d)) (one_more i) (stand.nodes (Device (suc i)) store at)
  where
    one_more : (i : ℕ) → suc i ≡ i + 1
    one_more i = omega arith

-- nothing that is kept is known at each ledger
none_known : (k : Known) (H : Ledger) → IsBlank k → kept_of k ≡ record { all = false; seen = [] } → Knows k H
none_known k H blank unkept = record {
  sent = λ kept bytes. absurd (not_kept kept);
  released = λ kept mark. absurd (not_kept kept);
  debited = tells_none (λ mark. IsDebited mark (counted H)) k.seen blank.unseen;
}
  where
    not_kept : IsTrue k.is_kept → ⊥
    not_kept kept = true≢false (sym kept ∙ ap (λ (x : Kept). x.all) unkept)

-- what is seen of each node is the record that the auditor starts from
module _ (devices : List DeviceRecord) (c : CentreRecord) (h : HostRecord) (v : ScanRecord) (a : Audit) (starts : StartsFrom devices c h v a) (H : Ledger)
    (day : HasDay None [] None H)
    (device_is : (i : ℕ) (r : DeviceRecord) → slice_get devices i ≡ Some r → rested (device.seen_of r) ≡ view_in (Device (i + 1)) (bench_kinds.devices.seen (i + 1)) H)
    (centre_is : rested (centre.cells_of c) ≡ view_in Centre (bench_kinds.centre.seen tt) H)
    (host_is : rested (host.cells_of h) ≡ view_in Host (bench_kinds.host.seen tt) H)
    (verifier_is : rested (verifier.cells_of v) ≡ view_in Verifier (bench_kinds.verifier.seen tt) H) where
  pub sees : Sees a H
  sees = record {
    run = record {
      day = record {
        day = starts.day ∙ day.day;
        messages = starts.messages ∙ day.messages;
        rates = subst (λ (r : Option RateTable). Keeps (rates_in H) r) (sym starts.rates) day.rates;
      };
      devices = λ i s at.
          let found = rests_at devices i s (ap (λ (l : List (Traced DeviceRecord State)). slice_get l i) (sym starts.devices) ∙ at) in
          ap (λ (t : Traced DeviceRecord State). device.view_of t) found.2 ∙ device_is i found.0 found.1;
      centre = ap (λ t. centre.view_of t) starts.centre ∙ centre_is;
      host = ap (λ t. host.view_of t) starts.host ∙ host_is;
      verifier = ap (λ t. verifier.view_of t) starts.verifier ∙ verifier_is;
    };
    known = none_known a.known H starts.unknown starts.unkept;
  }
