-- What reading the slots of a cell finds.
use Rattle.std.specs.Prelude.{◌≡◌, ◌≢◌, ◌⊎◌, ℕ, ◌<◌, ◌≤◌, List, [], ◌∷◌, Bool, true, false, get_or, is_some, Option, Some, None, if◌then◌else◌, ◌==◌}
use Rattle.std.specs.Int.{from_be_bytes, w32}
use Rattle.nv_store.specs.Slot.{Held}
use Rattle.nv_store.specs.Store.{count_of}

-- the count in the first bytes of a slot, where its gate is open
abbrev pub front_count : List ℕ → Option ℕ
front_count (gate ∷ a ∷ b ∷ c ∷ d ∷ payload) = if gate == 165 then Some (from_be_bytes w32 (a ∷ b ∷ c ∷ d ∷ [])) else None
front_count _ = None

-- the count of a slot, where it is open
abbrev pub open_count : Option Held → Option ℕ
open_count None = None
open_count (Some held) = Some held.0

-- of the first n slots: which are open, their counts, and the greatest count with its place
pub record Scanned (n : ℕ) (slots : ℕ → Option Held) (count place : ℕ) (gates : List Bool) (counts : List ℕ) : Type 0 where
  pub gates_are : (i : ℕ) → i < n → is_some (slots i) ≡ get_or gates i false
  pub counts_are : (i : ℕ) → i < n → count_of (slots i) ≡ get_or counts i 0
  pub at_most : (i : ℕ) → i < n → count_of (slots i) ≤ count
  pub best : 0 < count → (place < n) × (count_of (slots place) ≡ count)
  pub rest : (i : ℕ) → n ≤ i → get_or gates i false ≡ false
  pub rest_counts : (i : ℕ) → n ≤ i → get_or counts i 0 ≡ 0

-- an open slot of count 0
pub record IsEmpty (n : ℕ) (slots : ℕ → Option Held) (i : ℕ) : Type 0 where
  pub inside : i < n
  pub is_open : is_some (slots i) ≡ true
  pub none : count_of (slots i) ≡ 0

-- two open slots of equal count
pub record IsRepeat (n : ℕ) (slots : ℕ → Option Held) (i j : ℕ) : Type 0 where
  pub first : i < n
  pub second : j < n
  pub differs : i ≢ j
  pub open_first : is_some (slots i) ≡ true
  pub open_second : is_some (slots j) ≡ true
  pub same : count_of (slots i) ≡ count_of (slots j)

-- a cell is mixed where it has either
abbrev pub IsMixed : ℕ → (ℕ → Option Held) → Type 0
IsMixed n slots = ((i : ℕ) × IsEmpty n slots i) ⊎ ((i : ℕ) × ((j : ℕ) × IsRepeat n slots i j))

-- which of the first n slots are open, and their counts
pub record Reads (n : ℕ) (slots : ℕ → Option Held) (gates : List Bool) (counts : List ℕ) : Type 0 where
  pub gates_are : (i : ℕ) → i < n → is_some (slots i) ≡ get_or gates i false
  pub counts_are : (i : ℕ) → i < n → count_of (slots i) ≡ get_or counts i 0
