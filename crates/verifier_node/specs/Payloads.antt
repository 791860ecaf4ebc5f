-- What the storage of the verifier shows: 1,032 cells of two slots, each with a payload that reads as the row of its place.
use Rattle.std.specs.Prelude.{ℕ, Option, option_map}
use Rattle.bench_base.specs.declared.sizes.TheConstants.{BLOCK_BYTES, VERIFIER_CELLS}
use Rattle.nv_model.specs.declared.nv.Nv.{Ghosts}
use Rattle.nv_store.specs.Slot.{Held}
use Rattle.nv_store.specs.Store.{payload_of}
use Rattle.row_node.specs.Shows.{IsDamagedTable}
use Rattle.row_node.specs.Kept.{AreFilled, seen_by}
use Rattle.verifier.specs.Payload.{IsPayloadOf, row_of}
use Rattle.verifier.specs.Rows.{Row}
use Rattle.verifier.specs.Seen.{Seen, AreTogether}

-- the rows by the payloads that the cells hold
abbrev pub rows_held : (ℕ → Option Held) → ℕ → Option Row
rows_held held k = option_map (row_of k) (payload_of (held k))

-- each payload reads as a row of its cell
abbrev pub HoldRows : (ℕ → Option Held) → Type 0
HoldRows held = AreFilled VERIFIER_CELLS IsPayloadOf (rows_held held) held

-- what is seen of the cells
abbrev pub seen_held : (ℕ → Option Held) → Seen
seen_held held = seen_by VERIFIER_CELLS held (rows_held held)

-- why a boot answers Damaged: the size is another, or what the storage is sure to hold is mixed, no rows, or rows that break a condition
-- together
abbrev pub IsDamaged : {N : Type 0} → Ghosts N → N → Type 0
IsDamaged g nv = IsDamagedTable BLOCK_BYTES VERIFIER_CELLS IsPayloadOf AreTogether g nv
