-- The cells of a table: what is known of each, and its payload.
use Rattle.std.specs.Prelude.{◌≡◌, ℕ, ◌+◌, ◌*◌, ◌<◌, List, Bool, false, length, slice_get, Option, Some, None}
use Rattle.nv_model.specs.declared.nv.Nv.{Ghosts}
use Rattle.nv_model.specs.Moments.{Times, Only}
use Rattle.nv_store.specs.Slot.{Held, slots_at}
use Rattle.nv_store.specs.Cells.{Known}
use Rattle.nv_store.specs.Store.{StoreView, one_held, next_is_open}
use Rattle.nv_store.specs.declared.head.Head.{Head}

-- what a cell of this head and payload holds
abbrev pub row_held : Option Head → Option (List ℕ) → Option Held
row_held (Some head) (Some payload) = one_held head.count payload
row_held _ _ = None

abbrev pub table_held : List Head → List (List ℕ) → ℕ → Option Held
table_held heads payloads k = row_held (slice_get heads k) (slice_get payloads k)

-- whether the slot that the next commit to a cell fills is open
abbrev pub row_is_open : Option Head → Bool
row_is_open (Some head) = next_is_open 2 head
row_is_open None = false

abbrev pub cell_is_open : List Head → ℕ → Bool
cell_is_open heads k = row_is_open (slice_get heads k)

-- what contracts see of a table
abbrev pub table_view : {N : Type 0} → Ghosts N → N → List Head → List (List ℕ) → Bool → StoreView
table_view g nv heads payloads failed = record {
  cells = length heads;
  held = table_held heads payloads;
  failed = failed;
  fills_open = cell_is_open heads;
  content = g.content nv;
  size = g.size nv;
  times = g.times nv;
  meters = g.meters nv;
}

-- of each of the first cells its head and its payload are known
pub record TableKnown (size n cells : ℕ) (image : List ℕ) (heads : List Head) (payloads : List (List ℕ)) : Type 0 where
  pub each : (k : ℕ) (head : Head) (payload : List ℕ) → k < cells → slice_get heads k ≡ Some head → slice_get payloads k ≡ Some payload
      → Known n (slots_at size (k * (n * (5 + size))) image) head.count head.place head.gates payload

-- the places of the heads of the first cells lie within a cell
pub record PlacesInside (n cells : ℕ) (heads : List Head) : Type 0 where
  pub each : (k : ℕ) (head : Head) → k < cells → slice_get heads k ≡ Some head → 0 < head.count → head.place < n

-- what a running table that hasn't failed knows of its storage: the only image is the content, and the cells are those of the heads and the payloads
pub record TableHolds (size cells : ℕ) (heads : List Head) (payloads : List (List ℕ)) (now : Times) (content : List ℕ) : Type 0 where
  pub only : Only now content
  pub known : TableKnown size 2 cells content heads payloads
