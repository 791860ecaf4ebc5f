-- What the storage of the centre shows: 72 cells of two slots, each with a payload that reads as the row of its place.
use Rattle.std.specs.Prelude.{◌≡◌, ℕ, ◌+◌, ◌<◌, ◌≤◌, List, Option}
use Rattle.bench_base.specs.declared.sizes.TheConstants.{ROW_BYTES, CENTRE_CELLS}
use Rattle.nv_model.specs.declared.nv.Nv.{Ghosts}
use Rattle.nv_store.specs.Slot.{Held}
use Rattle.row_node.specs.Shows.{IsDamagedTable}
use Rattle.row_node.specs.Kept.{AreFilled}
use Rattle.centre_ledger.specs.declared.rows.Row.{Row}
use Rattle.centre_ledger.specs.declared.rows.Row.TheVariants as row
use Rattle.centre_ledger.specs.Payload.{RowReadsAs}
use Rattle.centre_ledger.specs.Books.{AreSound}
use Rattle.centre_ledger.specs.Seen.{books_in}

-- the row is that of cell k: device d lies in cell d - 1, customer w in cell w + 7
abbrev pub IsIn : ℕ → Row → Type 0
IsIn k (row.Device r) = (r.device ≡ k + 1) × (k < 8)
IsIn k (row.Customer r) = (r.customer + 7 ≡ k) × (8 ≤ k)

-- the payload of cell k reads as this row
abbrev pub IsPayloadOf : ℕ → Row → List ℕ → Type 0
IsPayloadOf k x payload = IsIn k x × ∥ RowReadsAs x payload ∥₁

-- the cells hold these rows
abbrev pub HoldRows : (ℕ → Option Row) → (ℕ → Option Held) → Type 0
HoldRows rows held = AreFilled CENTRE_CELLS IsPayloadOf rows held

-- why a boot answers Damaged: the size is another, or what the storage is sure to hold is mixed, no rows, or rows that do not agree
abbrev pub IsDamaged : {N : Type 0} → Ghosts N → N → Type 0
IsDamaged g nv = IsDamagedTable ROW_BYTES CENTRE_CELLS IsPayloadOf (λ s. AreSound (books_in s)) g nv
