use Rattle.std.proofs.Common.{◌≡◌, ◌<◌, ◌≤◌, ℕ, get_or, length}
use Rattle.std.specs.Prelude.{max}
use Rattle.host_jobs.proofs.joined.raise.Given as goal

abbrev pub invariant-loop-place : goal.invariant-loop-place
invariant-loop-place l = record {
  long : length l.tops ≡ 8;
  below : (i : ℕ) → i < l.place → get_or l.tops i 0 ≡ max (get_or l.initial.tops i 0) (get_or l.row.tops i 0);
  above : (i : ℕ) → l.place ≤ i → get_or l.tops i 0 ≡ get_or l.initial.tops i 0;
}
