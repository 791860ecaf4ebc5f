-- What the slots of a storage show.
use Rattle.std.specs.Prelude.{◌≡◌, ℕ, ◌+◌, ◌*◌, ◌<◌, zero, suc, List, [], ◌∷◌, Option, Some, None, if◌then◌else◌, ◌==◌, nat_lt}
use Rattle.std.specs.Int.{from_be_bytes, w32}
use Rattle.nv_model.specs.Bytes.{range}

-- what an open slot holds: its count and its payload
abbrev pub Held : Type 0
Held = ℕ × List ℕ

-- a slot's bytes: a gate, open where it is 0xA5, a count of 4 bytes, big-endian, and a payload
abbrev pub slot : List ℕ → Option Held
slot (gate ∷ a ∷ b ∷ c ∷ d ∷ payload) = if gate == 165 then Some (from_be_bytes w32 (a ∷ b ∷ c ∷ d ∷ []), payload) else None
slot _ = None

-- the slot that begins at a place, with a payload of `size` bytes
abbrev pub slot_at : ℕ → ℕ → List ℕ → Option Held
slot_at size at image = slot (range image at (1 + (4 + size)))

-- the slots of the cell that begins at a place
abbrev pub slots_at : ℕ → ℕ → List ℕ → ℕ → Option Held
slots_at size at image i = slot_at size (at + i * (5 + size)) image

-- of two slots, the open one with the greater count
abbrev pub newer : Option Held → Option Held → Option Held
newer None b = b
newer (Some a) None = Some a
newer (Some a) (Some b) = if nat_lt a.0 b.0 then Some b else Some a

-- of the first n slots, the open one with the greatest count
abbrev pub current : ℕ → (ℕ → Option Held) → Option Held
current zero slots = None
current (suc n) slots = newer (current n slots) (slots n)

-- no open slot has count 0, and no two have equal counts
pub record IsClear (n : ℕ) (slots : ℕ → Option Held) : Type 0 where
  pub counted : (i : ℕ) (a : Held) → i < n → slots i ≡ Some a → 0 < a.0
  pub distinct : (i j : ℕ) (a b : Held) → i < n → j < n → slots i ≡ Some a → slots j ≡ Some b → a.0 ≡ b.0 → i ≡ j
