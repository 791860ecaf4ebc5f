use Rattle.std.proofs.Common.{◌≡◌, ℕ, ◌<◌, get_or}
use Rattle.verifier.specs.Payload.{scans_of}
use Rattle.payload_rows.proofs.verifier_rows.has_scans.Given as goal

abbrev pub invariant-loop-place : goal.invariant-loop-place
invariant-loop-place l = (j : ℕ) → j < l.place → get_or (scans_of l.payload) j 0 ≡ get_or l.scans j 0
