-- The rows that are kept of cells.
use Rattle.std.specs.Prelude.{ℕ, List, map, Option, Some, None}
use Rattle.verifier.specs.Rows.{Row, TrustRow, BlockRow}
use Rattle.verifier.specs.Seen.{Seen}
use Rattle.trace_verifier.specs.declared.held.Held.{Held}
use Rattle.trace_verifier.specs.declared.held.Held.TheVariants as held

-- the row that is kept
abbrev pub row_held : Held → Row
row_held (held.Trust d key) = TrustRow d key
row_held (held.Block d b scans) = BlockRow d b scans

abbrev pub seen_cell : Option (ℕ × Held) → Option (ℕ × Row)
seen_cell None = None
seen_cell (Some x) = Some (x.0, row_held x.1)

-- what is seen of the cells
abbrev pub seen_by : List (Option (ℕ × Held)) → Seen
seen_by cells = map seen_cell cells
