-- One device after another is switched off.
use Rattle.std.proofs.Common.{◌≡◌, ℕ, zero, suc, ◌+◌, List, [], ◌∷◌, length, Some, refl, sym, ◌∙◌, ap, arith, add-one}
use Rattle.std.specs.Prelude.{slice_get, slice_set}
use Rattle.psd_state.specs.State.{State}
use Rattle.trace_nodes.specs.declared.traced.Traced.{Traced}
use Rattle.trace_device.specs.declared.record.DeviceRecord.{DeviceRecord}
use Rattle.trace_bench.specs.Beginning.{shut, ShutsAt, AreShut}

-- the first so many are off, and the others are as they were
abbrev pub shut_first : ℕ → List (Traced DeviceRecord State) → List (Traced DeviceRecord State)
shut_first zero devices = devices
shut_first (suc n) [] = []
shut_first (suc n) (s ∷ devices) = shut s ∷ shut_first n devices

one_more : (k : ℕ) (devices : List (Traced DeviceRecord State)) (s : Traced DeviceRecord State) → slice_get (shut_first k devices) k ≡ Some s → slice_set (shut_first k devices) k (shut s) ≡ shut_first (suc k) devices
one_more zero [] s at = refl
one_more zero (x ∷ devices) s at = let same : x ≡ s = cc in ap (λ (y : Traced DeviceRecord State). shut y ∷ devices) (sym same)
one_more (suc k) [] s at = refl
one_more (suc k) (x ∷ devices) s at = ap (λ (l : List (Traced DeviceRecord State)). shut x ∷ l) (one_more k devices s at)

pub shut_more : (k : ℕ) (old mid new : List (Traced DeviceRecord State)) → mid ≡ shut_first k old → ShutsAt k mid new → new ≡ shut_first (k + 1) old
shut_more k old mid new so at =
    at.set ∙ ap (λ (l : List (Traced DeviceRecord State)). slice_set l k (shut at.was)) so
    ∙ one_more k old at.was (ap (λ (l : List (Traced DeviceRecord State)). slice_get l k) (sym so) ∙ at.at)
    ∙ ap (λ (n : ℕ). shut_first n old) (sym (add-one k))

shut_length : (k : ℕ) (devices : List (Traced DeviceRecord State)) → length (shut_first k devices) ≡ length devices
shut_length zero devices = refl
shut_length (suc k) [] = refl
shut_length (suc k) (s ∷ devices) = omega (arith, shut_length k devices)

shut_each : (k : ℕ) (devices : List (Traced DeviceRecord State)) → k ≡ length devices → (i : ℕ) (t : Traced DeviceRecord State) → slice_get (shut_first k devices) i ≡ Some t
    → (s : Traced DeviceRecord State) × (slice_get devices i ≡ Some s) × (t ≡ shut s)
shut_each zero [] all i t at = (t, at, absurd (cc at))
shut_each zero (s ∷ devices) all i t at = absurd (omega (arith, all))
shut_each (suc k) [] all i t at = absurd (omega (arith, all))
shut_each (suc k) (s ∷ devices) all zero t at = (s, refl, cc)
shut_each (suc k) (s ∷ devices) all (suc i) t at = shut_each k devices (omega (arith, all)) i t at

pub all_shut : (k : ℕ) (old new : List (Traced DeviceRecord State)) → k ≡ length old → new ≡ shut_first k old → AreShut old new
all_shut k old new all so = record {
  size = ap (λ (l : List (Traced DeviceRecord State)). length l) so ∙ shut_length k old;
  each = λ i t at. shut_each k old all i t (ap (λ (l : List (Traced DeviceRecord State)). slice_get l i) (sym so) ∙ at);
}
