use Rattle.std.proofs.Common.{◌≡◌, ℕ, ◌<◌, ◌≤◌}
use Rattle.trace_extensions.specs.Kept.{claim_by}
use Rattle.trace_extensions.proofs.stored.claims_differ.Given as goal

abbrev pub invariant-loop-number : goal.invariant-loop-number
invariant-loop-number l = record { same : (c : ℕ) → c < l.number → 1 ≤ c → claim_by l.due c ≡ claim_by l.found c }
