-- What fits single places.
use Rattle.std.proofs.Common.{◌≡◌, ◌↔◌, ℕ, ◌≤◌, ◌<◌, ◌^◌, List, Bool, IsTrue, sym, subst, arith, decimal}
use Rattle.script_words.specs.Words.{byte_word}
use Rattle.script_words.specs.declared.values.Byte.{Byte}
use Rattle.script_words.proofs.Numbers.{same_number}
use Rattle.script_check.specs.Slots.{Takes}
use Rattle.script_check.specs.declared.slots.Slot.{Slot}
use Rattle.script_check.specs.declared.slots.Slot.TheVariants as slot

-- a byte of two digits is its number
pub byte_place : (b : Bool) (s : Slot) (w : List ℕ) → s ≡ slot.Byte → (IsTrue b ↔ ((a : Byte) × (a.0 < 2 ^ 8) × (w ≡ byte_word a.0))) → IsTrue b ↔ Takes s w
byte_place b s w is h =
    subst (λ (t : Slot). IsTrue b ↔ Takes t w) (sym is) ((λ t. ((h.0 t).0.0, (h.0 t).1, (h.0 t).2)), (λ t. h.1 (record { 0 = t.0 }, t.1, t.2)))

-- a word that is 0 is no number from 1 on
pub not_counted : (z : ℕ) (w : List ℕ) → z < 1 → z < 2 ^ 32 → w ≡ decimal z → ((n : ℕ) × (1 ≤ n) × (n < 2 ^ 32) × (w ≡ decimal n)) → ⊥
not_counted z w small short is n =
    let same = same_number w z n.0 (omega (arith, short)) (omega (arith, n.2)) is n.3 in omega (arith, same, small, n.1)
