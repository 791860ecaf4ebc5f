-- What the three writes of a commit make of a slot.
use Rattle.std.proofs.Common.{◌≡◌, ◌≢◌, inl, inr, ℕ, ◌+◌, ◌≤◌, ◌<◌, ◌^◌, List, [], ◌∷◌, ◌++◌, length, take, drop, get_or, Option, Some, None, IsSome, Result, sym, ◌∙◌, ap, subst, arith, refl, append_assoc, length-drop}
use Rattle.std.specs.Prelude.{OnOk}
use Rattle.std.specs.Int.{to_be_bytes, w32}
use Rattle.std.proofs.lemmas.Bool.{cases_eq}
use Rattle.std.proofs.lemmas.Result.{on_ok_weaker}
use Rattle.std.proofs.lemmas.Bool.Decides.{nat_tests}
use Rattle.std.proofs.lemmas.Nat.{from_be_bytes-to_be_bytes_4}
use Rattle.std.proofs.lemmas.List.{length-take-le, get_or_at}
use Rattle.nv_model.specs.Bytes.{SameOutside, laid, range}
use Rattle.nv_model.specs.Moments.{Times, Only}
use Rattle.nv_model.proofs.Ranges.{range_before, range_behind, range_first, outside_wider, laid_outside}
use Rattle.nv_store.specs.Slot.{Held, slot, slot_at}
use Rattle.nv_store.specs.Steps.{Puts, Slotted, Steps, IsShut, IsOrShut, IsOrHolds}

-- a write and a sync are a step on the slot, if the slot is so while they go on and so once they are done
pub put_steps : {E : Type 0} {at : ℕ} {P Q : Option Held → Type 0} {bytes old new : List ℕ} {before now : Times} (size : ℕ) (result : Result (Unit {0}) E)
    → Puts at bytes old new before now result → OnOk result (Only now new) → ((c : List ℕ) → SameOutside at (length bytes) old c → Slotted size at P old c)
    → ((c : List ℕ) → c ≡ laid old at bytes → Slotted size at Q old c) → Steps size at P Q old new before now result
put_steps {new = new} size result puts durable torn done =
    record { any_moment = λ c now. torn c (puts.torn c now); done = on_ok_weaker result (done new) puts.done; durable = durable; time = puts.time }

-- a closed gate
pub shut : (gate : ℕ) (rest : List ℕ) → gate ≢ 165 → slot (gate ∷ rest) ≡ None
shut gate [] differs = refl
shut gate (a ∷ []) differs = refl
shut gate (a ∷ b ∷ []) differs = refl
shut gate (a ∷ b ∷ c ∷ []) differs = refl
shut gate (a ∷ b ∷ c ∷ d ∷ rest) differs = grind (arith, nat_tests)

-- a slot that is closed and long enough has a closed gate
opened : (gate : ℕ) (rest : List ℕ) → 4 ≤ length rest → slot (gate ∷ rest) ≡ None → gate ≢ 165
opened gate [] long none = absurd (omega arith)
opened gate (a ∷ []) long none = absurd (omega arith)
opened gate (a ∷ b ∷ []) long none = absurd (omega arith)
opened gate (a ∷ b ∷ c ∷ []) long none = absurd (omega arith)
opened gate (a ∷ b ∷ c ∷ d ∷ rest) long none = λ is. absurd (grind (arith, nat_tests))

gate_of : (gate : ℕ) (rest : List ℕ) → IsSome (slot (gate ∷ rest)) → gate ≡ 165
gate_of gate rest some = elim (cases_eq gate 165) [
  | inl is ↦ is
  | inr differs ↦ cc (subst (λ (o : Option Held). IsSome o) (shut gate rest differs) some)
]

pub held : (count : ℕ) (payload : List ℕ) → count < 2 ^ 32 → slot (165 ∷ (to_be_bytes w32 count ++ payload)) ≡ Some (count, payload)
held count payload fits = ap (λ (n : ℕ). Some (n, payload)) (from_be_bytes-to_be_bytes_4 count fits)

module _ (size at : ℕ) (old : List ℕ) (room : at + 5 + size ≤ length old) where
  slot_first : (c : List ℕ) → length c ≡ length old → slot_at size at c ≡ slot (get_or c at 0 ∷ range c (at + 1) (4 + size))
  slot_first c same = ap slot (range_first c at (4 + size) (omega arith))

  -- where the gate alone may have changed
  gate_alone : (c : List ℕ) → SameOutside at 1 old c → slot_at size at c ≡ slot (get_or c at 0 ∷ range old (at + 1) (4 + size))
  gate_alone c torn = slot_first c torn.size ∙ ap (λ (l : List ℕ). slot (get_or c at 0 ∷ l)) (range_behind at 1 old c (at + 1) (4 + size) torn (omega arith))

  gate_wider : (c : List ℕ) → SameOutside at 1 old c → SameOutside at (5 + size) old c
  gate_wider c torn = outside_wider at (5 + size) at 1 old c torn (omega arith) (omega arith)

  pub close_torn : (c : List ℕ) → IsSome (slot_at size at old) → SameOutside at 1 old c → Slotted size at (IsOrShut (slot_at size at old)) old c
  close_torn c some torn = record { others = gate_wider c torn; slot = which }
    where
      was : get_or old at 0 ≡ 165
      was = gate_of (get_or old at 0) (range old (at + 1) (4 + size)) (subst (λ (o : Option Held). IsSome o) (slot_first old refl) some)

      which : IsOrShut (slot_at size at old) (slot_at size at c)
      which = elim (cases_eq (get_or c at 0) 165) [
        | inl is ↦ inl (gate_alone c torn ∙ ap (λ (g : ℕ). slot (g ∷ range old (at + 1) (4 + size))) (is ∙ sym was) ∙ sym (slot_first old refl))
        | inr differs ↦ inr (gate_alone c torn ∙ shut (get_or c at 0) (range old (at + 1) (4 + size)) differs)
      ]

  laid_gate : (gate : ℕ) → get_or (laid old at (gate ∷ [])) at 0 ≡ gate
  laid_gate gate =
      ap (λ (l : List ℕ). get_or l at 0) (append_assoc (take at old) (gate ∷ []) (drop (at + 1) old)) ∙ get_or_at (take at old) gate (drop (at + 1) old) 0 at (length-take-le at old (omega arith))

  laid_torn : (gate : ℕ) → SameOutside at 1 old (laid old at (gate ∷ []))
  laid_torn gate = laid_outside old at (gate ∷ []) (omega arith)

  pub close_done : (c : List ℕ) → c ≡ laid old at (0 ∷ []) → Slotted size at IsShut old c
  close_done c is = subst (λ (l : List ℕ). Slotted size at IsShut old l) (sym is) (record {
    others = gate_wider (laid old at (0 ∷ [])) (laid_torn 0);
    slot = gate_alone (laid old at (0 ∷ [])) (laid_torn 0) ∙ ap (λ (g : ℕ). slot (g ∷ range old (at + 1) (4 + size))) (laid_gate 0) ∙ shut 0 (range old (at + 1) (4 + size)) (omega arith);
  })

  behind_long : length (range old (at + 1) (4 + size)) ≡ 4 + size
  behind_long = length-take-le (4 + size) (drop (at + 1) old) (omega (arith, length-drop (at + 1) old))

  -- the bytes after a closed gate may be anything
  pub payload_torn : (c : List ℕ) → IsShut (slot_at size at old) → SameOutside (at + 1) (4 + size) old c → Slotted size at IsShut old c
  payload_torn c none torn = record {
    others = outside_wider at (5 + size) (at + 1) (4 + size) old c torn (omega arith) (omega arith);
    slot = slot_first c torn.size ∙ ap (λ (g : ℕ). slot (g ∷ range c (at + 1) (4 + size))) same ∙ shut (get_or old at 0) (range c (at + 1) (4 + size)) closed;
  }
    where
      closed : get_or old at 0 ≢ 165
      closed = opened (get_or old at 0) (range old (at + 1) (4 + size)) (omega (arith, behind_long)) (sym (slot_first old refl) ∙ none)

      before : range c at 1 ≡ range old at 1
      before = range_before (at + 1) (4 + size) old c at 1 torn (omega arith)

      same : get_or c at 0 ≡ get_or old at 0
      same = cc (before, range_first c at 0 (omega (arith, torn.size)), range_first old at 0 (omega arith))

  pub payload_done : (c bytes : List ℕ) → length bytes ≡ 4 + size → IsShut (slot_at size at old) → c ≡ laid old (at + 1) bytes → Slotted size at IsShut old c
  payload_done c bytes long none is = payload_torn c none (subst (λ (n : ℕ). SameOutside (at + 1) n old c) long (subst (λ (l : List ℕ). SameOutside (at + 1) (length bytes) old l) (sym is) (laid_outside old (at + 1) bytes (omega arith))))

  module _ (count : ℕ) (payload : List ℕ) (fits : count < 2 ^ 32) (behind : range old (at + 1) (4 + size) ≡ to_be_bytes w32 count ++ payload) where
    with_gate : (c : List ℕ) → SameOutside at 1 old c → slot_at size at c ≡ slot (get_or c at 0 ∷ (to_be_bytes w32 count ++ payload))
    with_gate c torn = gate_alone c torn ∙ ap (λ (l : List ℕ). slot (get_or c at 0 ∷ l)) behind

    pub open_torn : (c : List ℕ) → SameOutside at 1 old c → Slotted size at (IsOrHolds None (count, payload)) old c
    open_torn c torn = record {
      others = gate_wider c torn;
      slot = elim (cases_eq (get_or c at 0) 165) [
        | inl is ↦ inr (inr (with_gate c torn ∙ ap (λ (g : ℕ). slot (g ∷ (to_be_bytes w32 count ++ payload))) is ∙ held count payload fits))
        | inr differs ↦ inl (with_gate c torn ∙ shut (get_or c at 0) (to_be_bytes w32 count ++ payload) differs)
      ];
    }

    pub open_done : (c : List ℕ) → c ≡ laid old at (165 ∷ []) → Slotted size at (λ s. s ≡ Some (count, payload)) old c
    open_done c is = subst (λ (l : List ℕ). Slotted size at (λ s. s ≡ Some (count, payload)) old l) (sym is) (record {
      others = gate_wider (laid old at (165 ∷ [])) (laid_torn 165);
      slot = with_gate (laid old at (165 ∷ [])) (laid_torn 165) ∙ ap (λ (g : ℕ). slot (g ∷ (to_be_bytes w32 count ++ payload))) (laid_gate 165) ∙ held count payload fits;
    })
