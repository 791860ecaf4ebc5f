-- A step on one slot, as its cell sees it.
use Rattle.std.proofs.Common.{◌≡◌, ◌≢◌, ◌⊎◌, inl, inr, ⊎_elim, ℕ, suc, ◌+◌, ◌*◌, ◌≤◌, ◌<◌, List, length, set, Bool, true, Some, ap, arith, refl}
use Rattle.std.proofs.Math.Nat.{mul-le-mul_right}
use Rattle.nv_model.specs.Bytes.{SameOutside}
use Rattle.nv_model.proofs.Ranges.{range_apart, outside_wider}
use Rattle.nv_store.specs.Slot.{slot, slots_at, current}
use Rattle.nv_store.specs.Steps.{Slotted, IsOrHolds}
use Rattle.nv_store.specs.Cells.{Known, Commits}
use Rattle.nv_store.specs.Current.{apart, current_top}
use Rattle.nv_store.proofs.Step.{step_clear, step_shows, step_known, filled_top}

module _ (size n at t : ℕ) (inside : t < n) (old c : List ℕ) (others : SameOutside (at + t * (5 + size)) (5 + size) old c) where
  pub other_slots : (i : ℕ) → i < n → i ≢ t → slots_at size at c i ≡ slots_at size at old i
  other_slots i lt differs =
      let gap : (at + i * (5 + size) + (1 + (4 + size)) ≤ at + t * (5 + size)) ⊎ (at + t * (5 + size) + (5 + size) ≤ at + i * (5 + size)) =
      ⊎_elim (λ le. inl (omega (arith, le))) (λ le. inr (omega (arith, le))) (apart i t (5 + size) differs) in
      ap slot (range_apart (at + t * (5 + size)) (5 + size) old c (at + i * (5 + size)) (1 + (4 + size)) others gap)

  pub other_cells : SameOutside at (n * (5 + size)) old c
  other_cells =
      let le : suc t * (5 + size) ≤ n * (5 + size) = mul-le-mul_right {m = suc t} {n = n} (5 + size) (omega arith) in
      let step : suc t * (5 + size) ≡ t * (5 + size) + (5 + size) = grind arith in
      outside_wider at (n * (5 + size)) (at + t * (5 + size)) (5 + size) old c others (omega arith) (omega (arith, le, step))

module _ (size n at count place : ℕ) (gates : List Bool) (payload new : List ℕ) (t : ℕ) (inside : t < n) (other : 0 < count → t ≢ place) (old : List ℕ) (known : Known n (slots_at size at old) count place gates payload) where
  pub commits : (c : List ℕ) → Slotted size (at + t * (5 + size)) (IsOrHolds (slots_at size at old t) (count + 1, new)) old c → Commits size n at (current n (slots_at size at old)) (count + 1, new) old c
  commits c step =
      let rest = other_slots size n at t inside old c step.others in
      record {
        others = other_cells size n at t inside old c step.others;
        clear = step_clear n (slots_at size at old) count place gates payload known t inside other (slots_at size at c) rest (count + 1, new) refl step.slot;
        shows = step_shows n (slots_at size at old) count place gates payload known t inside other (slots_at size at c) rest (count + 1, new) refl step.slot;
      }

  module _ (c : List ℕ) (step : Slotted size (at + t * (5 + size)) (λ s. s ≡ Some (count + 1, new)) old c) where
    pub committed_known : t < length gates → Known n (slots_at size at c) (count + 1) t (set gates t true) new
    committed_known room = step_known n (slots_at size at old) count place gates payload known t inside other (slots_at size at c) (other_slots size n at t inside old c step.others) new room step.slot

    pub committed_shown : current n (slots_at size at c) ≡ Some (count + 1, new)
    committed_shown =
        current_top n (slots_at size at c) t (count + 1, new)
        (filled_top n (slots_at size at old) count place gates payload known t inside other (slots_at size at c) (other_slots size n at t inside old c step.others) (count + 1, new) refl step.slot)
