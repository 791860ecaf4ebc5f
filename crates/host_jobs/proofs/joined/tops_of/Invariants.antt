use Rattle.std.proofs.Common.{◌≡◌, ◌<◌, ◌+◌, ℕ, get_or, length, take}
use Rattle.host_jobs.specs.Rows.{top_in}
use Rattle.host_jobs.proofs.joined.tops_of.Given as goal

abbrev pub invariant-loop-cell : goal.invariant-loop-cell
invariant-loop-cell l = record {
  long : length l.tops ≡ 8;
  tops : (i : ℕ) → i < 8 → get_or l.tops i 0 ≡ top_in (i + 1) (take l.cell l.rows);
}
