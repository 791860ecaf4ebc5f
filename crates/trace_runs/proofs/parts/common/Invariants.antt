use Rattle.std.proofs.Common.{◌≡◌, take}
use Rattle.trace_runs.proofs.parts.common.Given as goal

abbrev pub invariant-loop-at : goal.invariant-loop-at
invariant-loop-at l = record { alike : take l.at l.fn.digits ≡ take l.at l.fn.bytes }
