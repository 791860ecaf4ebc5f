use Rattle.std.proofs.Common.{◌≡◌, ◌≢◌, ◌<◌, ℕ, length}
use Rattle.host_departments.specs.Index.{at_place}
use Rattle.host_departments.proofs.index.note.Given as goal

abbrev pub invariant-loop-step : goal.invariant-loop-step
invariant-loop-step l = record {
  long : length l.index ≡ 2048;
  same : l.index ≡ l.initial.index;
  taken : (e : ℕ) → e < l.step → at_place l.index l.job e ≢ 0;
}
