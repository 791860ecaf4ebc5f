use Rattle.std.proofs.Common.{ℕ, ◌<◌, get_or}
use Rattle.verifier.specs.Index.{rank_of, nothing}
use Rattle.verifier.proofs.index.are_apart.Given as goal

abbrev pub invariant-loop-later : goal.invariant-loop-later
invariant-loop-later l = (i j : ℕ) → i < j → j < l.later → rank_of (get_or l.entries i nothing) < rank_of (get_or l.entries j nothing)
