use Rattle.std.proofs.Common.{◌≡◌, ℕ, ◌<◌, get_or, length}
use Rattle.verifier.specs.Payload.{scans_of}
use Rattle.trace_images.proofs.verifier_rows.scans_of.Given as goal

abbrev pub invariant-loop-place : goal.invariant-loop-place
invariant-loop-place l = record {
  long : length l.scans ≡ 512;
  each : (j : ℕ) → j < l.place → get_or l.scans j 0 ≡ get_or (scans_of l.payload) j 0;
}
