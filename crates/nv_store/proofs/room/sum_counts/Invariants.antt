use Rattle.std.proofs.Common.{◌≡◌, ◌≤◌, ◌*◌}
use Rattle.nv_store.specs.Store.{count_sum}
use Rattle.nv_store.specs.Tables.{table_held}
use Rattle.nv_store.proofs.room.sum_counts.Given as goal

abbrev pub invariant-loop-cell : goal.invariant-loop-cell
invariant-loop-cell g l = (l.total ≡ count_sum l.cell (table_held l.room.heads.items l.room.payloads.items)) × (l.total ≤ l.cell * 4294967295)
