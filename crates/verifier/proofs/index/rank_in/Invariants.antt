use Rattle.std.proofs.Common.{ℕ, ◌-◌, ◌<◌, ◌≤◌, length, get_or}
use Rattle.verifier.specs.Index.{rank, rank_of, nothing}
use Rattle.verifier.proofs.index.rank_in.Given as goal

abbrev pub invariant-loop-low : goal.invariant-loop-low
invariant-loop-low l = record {
  ends : (l.low ≤ l.high) × (l.high ≤ length l.entries);
  before : (k : ℕ) → k < l.low → rank_of (get_or l.entries k nothing) < rank l.device l.block;
  behind : (k : ℕ) → l.high ≤ k → k < length l.entries → rank l.device l.block ≤ rank_of (get_or l.entries k nothing);
}

abbrev pub decreases-loop-low : goal.decreases-loop-low
decreases-loop-low l = l.high - l.low
