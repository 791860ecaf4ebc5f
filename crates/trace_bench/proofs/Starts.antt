-- Nodes at rest.
use Rattle.std.proofs.Common.{◌≡◌, ℕ, zero, suc, ◌<◌, List, [], ◌∷◌, length, get_or, Option, Some, None, map, refl, sym, ◌∙◌, subst, arith}
use Rattle.std.specs.Prelude.{slice_get, option_map}
use Rattle.std.proofs.lemmas.List.{ext_get_or}
use Rattle.std.proofs.lemmas.Option.{slice_get-map}
use Rattle.psd_state.specs.State.{State}
use Rattle.trace_nodes.specs.declared.traced.Traced.{Traced}
use Rattle.trace_device.specs.declared.record.DeviceRecord.{DeviceRecord}
use Rattle.trace_device.specs.Records.{IsSettled}
use Rattle.trace_bench.specs.Seeing.{AreSettled}
use Rattle.trace_bench.specs.Starting.{at_rest}

-- the device in a place is at rest, with the record of that place
pub rests_at : (devices : List DeviceRecord) (i : ℕ) (s : Traced DeviceRecord State) → slice_get (map (λ r. at_rest r) devices) i ≡ Some s
    → (r : DeviceRecord) × (slice_get devices i ≡ Some r) × (s ≡ at_rest r)
rests_at devices i s at = by (slice_get devices i) refl (sym (slice_get-map (λ r. at_rest r) devices i) ∙ at)
  where
    by : (o : Option DeviceRecord) → slice_get devices i ≡ o → option_map (λ r. at_rest r) o ≡ Some s
        → (r : DeviceRecord) × (slice_get devices i ≡ Some r) × (s ≡ at_rest r)
    by None is same = absurd (cc same)
    by (Some r) is same = (r, is, sym (cc same))

pub rest_settled : (r : DeviceRecord) → IsSettled (at_rest r)
rest_settled r = record { closed = λ on. refl; takes = tt }

pub all_settled : (devices : List DeviceRecord) → AreSettled (map (λ r. at_rest r) devices)
all_settled devices i s at = let found = rests_at devices i s at in subst IsSettled (sym found.2) (rest_settled found.0)

other_default : {X : Type 0} (xs : List X) (i : ℕ) (a b : X) → i < length xs → get_or xs i a ≡ get_or xs i b
other_default [] i a b inside = absurd (omega arith)
other_default (x ∷ xs) zero a b inside = refl
other_default (x ∷ xs) (suc i) a b inside = other_default xs i a b (omega (arith, inside))

-- eight elements, each read at its place, are the list
module _ {X : Type 0} (xs : List X) (long : length xs ≡ 8) (a b c d e f g h : X) where
  pub eight_are : a ≡ get_or xs 0 a → b ≡ get_or xs 1 b → c ≡ get_or xs 2 c → d ≡ get_or xs 3 d → e ≡ get_or xs 4 e → f ≡ get_or xs 5 f → g ≡ get_or xs 6 g
      → h ≡ get_or xs 7 h → (a ∷ b ∷ c ∷ d ∷ e ∷ f ∷ g ∷ h ∷ []) ≡ xs
  eight_are at-0 at-1 at-2 at-3 at-4 at-5 at-6 at-7 = ext_get_or a (a ∷ b ∷ c ∷ d ∷ e ∷ f ∷ g ∷ h ∷ []) xs (sym long) each
    where
      read : (i : ℕ) (x : X) → i < 8 → x ≡ get_or xs i x → x ≡ get_or xs i a
      read i x inside at = at ∙ other_default xs i x a (omega (arith, inside, long))

      each : (i : ℕ) → i < 8 → get_or (a ∷ b ∷ c ∷ d ∷ e ∷ f ∷ g ∷ h ∷ []) i a ≡ get_or xs i a
      each zero inside = at-0
      each (suc zero) inside = read 1 b (omega arith) at-1
      each (suc (suc zero)) inside = read 2 c (omega arith) at-2
      each (suc (suc (suc zero))) inside = read 3 d (omega arith) at-3
      each (suc (suc (suc (suc zero)))) inside = read 4 e (omega arith) at-4
      each (suc (suc (suc (suc (suc zero))))) inside = read 5 f (omega arith) at-5
      each (suc (suc (suc (suc (suc (suc zero)))))) inside = read 6 g (omega arith) at-6
      each (suc (suc (suc (suc (suc (suc (suc zero))))))) inside = read 7 h (omega arith) at-7
      each (suc (suc (suc (suc (suc (suc (suc (suc i)))))))) inside = absurd (omega (arith, inside))
