use Rattle.std.proofs.Common.{◌≡◌, ℕ, ◌<◌, length, get_or, None}
use Rattle.node_acts.specs.RowList.{row_at}
use Rattle.centre_ledger.specs.Seen.{device_in}
use Rattle.trace_centre.proofs.rows.devices_in.Given as goal

abbrev pub invariant-loop-place : goal.invariant-loop-place
invariant-loop-place l = record { long : length l.rows ≡ 8; read : (k : ℕ) → k < l.place → get_or l.rows k None ≡ device_in (row_at l.cells k) }
