use Rattle.std.proofs.Common.{◌≡◌, ◌<◌, ℕ, length}
use Rattle.host_departments.specs.Index.{IsFound}
use Rattle.host_departments.specs.Kept.{rows_in}
use Rattle.host_departments.specs.Rows.{Keeps}
use Rattle.host_departments.proofs.index.index_of.Given as goal

abbrev pub invariant-loop-cell : goal.invariant-loop-cell
invariant-loop-cell l = record {
  long : length l.index ≡ 2048;
  noted : (k j : ℕ) → k < l.cell → Keeps (rows_in l.room) k j → IsFound l.index j k;
}
