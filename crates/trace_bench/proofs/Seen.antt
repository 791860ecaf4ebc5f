-- After an event of one node the auditor sees what the ledger shows: that node as it was judged, what was sent, and everything otherwise unchanged.
use Rattle.std.proofs.Common.{◌≡◌, ◌≢◌, ℕ, zero, suc, ◌+◌, ◌<◌, List, [], ◌∷◌, ◌++◌, length, Option, Some, None, ⊎_elim, append-nil, refl, sym, ◌∙◌, ap, subst, arith}
use Rattle.std.specs.Prelude.{slice_get, slice_set}
use Rattle.std.proofs.lemmas.Option.{slice_get_within, slice_get-get_or, same_Some}
use Rattle.std.proofs.lemmas.Bool.{cases_eq}
use Rattle.std.proofs.lemmas.List.{get_or-set_same, length-set}
use Rattle.bench_base.specs.declared.words.Node.TheVariants.{Device, Centre, Host, Verifier}
use Rattle.bench_base.specs.Ledger.{Ledger}
use Rattle.node_acts.specs.Kinds.{view_in}
use Rattle.psd_state.specs.State.{State}
use Rattle.host_rates.specs.Tariffs.{Keeps}
use Rattle.bench_abstraction.specs.Follows.{OthersStay, Rests}
use Rattle.bench_abstraction.specs.Kinds.{bench_kinds}
use Rattle.bench_abstraction.specs.Messages.{sent_in}
use Rattle.bench.specs.Benches.{HasDay}
use Rattle.trace_nodes.specs.declared.traced.Traced.{Traced}
use Rattle.trace_device.specs.declared.record.DeviceRecord.{DeviceRecord}
use Rattle.trace_device.specs.Records as device
use Rattle.trace_centre.specs.Cells as centre
use Rattle.trace_host.specs.Cells as host
use Rattle.trace_verifier.specs.Cells as verifier
use Rattle.trace_views.specs.Verdicts.{listed}
use Rattle.trace_bench.specs.Seeing.{Audit, AreSettled, SeesRun, sending}

-- what is at the places of a list after one was set
set_same : {X : Type 0} (xs : List X) (i : ℕ) (x y : X) → i < length xs → slice_get (slice_set xs i x) i ≡ Some y → y ≡ x
set_same xs i x y lt is = same_Some _ _ (sym is ∙ slice_get-get_or (slice_set xs i x) i x (omega (arith, length-set xs i x)) ∙ ap (λ z. Some z) (get_or-set_same xs i x x lt))

pub set_other : {X : Type 0} (xs : List X) (i : ℕ) (x : X) (j : ℕ) → j ≢ i → slice_get (slice_set xs i x) j ≡ slice_get xs j
set_other [] i x j differs = refl
set_other (y ∷ ys) zero x zero differs = absurd (differs refl)
set_other (y ∷ ys) zero x (suc j) differs = refl
set_other (y ∷ ys) (suc i) x zero differs = refl
set_other (y ∷ ys) (suc i) x (suc j) differs = set_other ys i x j (λ is. differs (ap (λ (k : ℕ). suc k) is))

module _ (a : Audit) (H K : Ledger) (sees : SeesRun a H) (sent : Option (List ℕ)) (rests : Rests H K) (sends : sent_in K ≡ sent_in H ++ listed sent) where
  day_after : HasDay a.day (a.messages ++ listed sent) a.rates K
  day_after = record {
    day = sees.day.day ∙ sym rests.day;
    messages = ap (λ (l : List (List ℕ)). l ++ listed sent) sees.day.messages ∙ sym sends;
    rates = subst (λ t. Keeps t a.rates) (sym rests.rates) sees.day.rates;
  }

  pub sees_device : (d i : ℕ) (before now : Traced DeviceRecord State) → d ≡ i + 1 → slice_get a.devices i ≡ Some before → view_in (Device d) (bench_kinds.devices.seen d) K ≡ device.view_of now → OthersStay bench_kinds (Device d) H K
      → SeesRun (sending sent (record a { devices = slice_set a.devices i now })) K
  sees_device d i before now d_is was here others = record {
    day = day_after;
    devices = λ j s at. ⊎_elim
        (λ (same : j ≡ i).
        let s_is : s ≡ now = set_same a.devices i now s (slice_get_within a.devices i before was) (subst (λ (k : ℕ). slice_get (slice_set a.devices i now) k ≡ Some s) same at) in
        let named : d ≡ j + 1 = d_is ∙ ap (λ (k : ℕ). k + 1) (sym same) in
        ap device.view_of s_is ∙ sym here ∙ ap (λ (k : ℕ). view_in (Device k) (bench_kinds.devices.seen k) K) named)
        (λ (differs : j ≢ i).
        sees.devices j s (sym (set_other a.devices i now j differs) ∙ at)
        ∙ sym (others.devices (j + 1) (λ is. differs (place j is))))
        (cases_eq j i);
    centre = sees.centre ∙ sym (others.centre (λ is. cc));
    host = sees.host ∙ sym (others.host (λ is. cc));
    verifier = sees.verifier ∙ sym (others.verifier (λ is. cc));
  }
    where
      place : (j : ℕ) → Device (j + 1) ≡ Device d → j ≡ i
      place j is = let same : j + 1 ≡ d = cc in omega arith

  pub sees_centre : (now : _) → view_in Centre (bench_kinds.centre.seen tt) K ≡ centre.view_of now → OthersStay bench_kinds Centre H K → SeesRun (sending sent (record a { centre = now })) K
  sees_centre now here others = record {
    day = day_after;
    devices = λ j s at. sees.devices j s at ∙ sym (others.devices (j + 1) (λ is. cc));
    centre = sym here;
    host = sees.host ∙ sym (others.host (λ is. cc));
    verifier = sees.verifier ∙ sym (others.verifier (λ is. cc));
  }

  pub sees_host : (now : _) → view_in Host (bench_kinds.host.seen tt) K ≡ host.view_of now → OthersStay bench_kinds Host H K → SeesRun (sending sent (record a { host = now })) K
  sees_host now here others = record {
    day = day_after;
    devices = λ j s at. sees.devices j s at ∙ sym (others.devices (j + 1) (λ is. cc));
    centre = sees.centre ∙ sym (others.centre (λ is. cc));
    host = sym here;
    verifier = sees.verifier ∙ sym (others.verifier (λ is. cc));
  }

  pub sees_verifier : (now : _) → view_in Verifier (bench_kinds.verifier.seen tt) K ≡ verifier.view_of now → OthersStay bench_kinds Verifier H K → SeesRun (sending sent (record a { verifier = now })) K
  sees_verifier now here others = record {
    day = day_after;
    devices = λ j s at. sees.devices j s at ∙ sym (others.devices (j + 1) (λ is. cc));
    centre = sees.centre ∙ sym (others.centre (λ is. cc));
    host = sees.host ∙ sym (others.host (λ is. cc));
    verifier = sym here;
  }

-- with nothing sent, it is as it was
pub sends_nothing : (a : Audit) → sending None a ≡ a
sends_nothing a k = record a { messages = append-nil a.messages k }

-- a device that is settled is put among those that are
pub set_settled : (devices : List (Traced DeviceRecord State)) (i : ℕ) (now : Traced DeviceRecord State) → i < length devices → AreSettled devices → device.IsSettled now → AreSettled (slice_set devices i now)
set_settled devices i now lt settled is j s at = ⊎_elim
    (λ (same : j ≡ i). subst device.IsSettled (sym (set_same devices i now s lt (subst (λ (k : ℕ). slice_get (slice_set devices i now) k ≡ Some s) same at))) is)
    (λ (differs : j ≢ i). settled j s (sym (set_other devices i now j differs) ∙ at))
    (cases_eq j i)
