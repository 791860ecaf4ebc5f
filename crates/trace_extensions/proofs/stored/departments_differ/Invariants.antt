use Rattle.std.proofs.Common.{◌≡◌, ℕ, ◌<◌}
use Rattle.trace_extensions.specs.Kept.{row_by}
use Rattle.trace_extensions.proofs.stored.departments_differ.Given as goal

abbrev pub invariant-loop-cell : goal.invariant-loop-cell
invariant-loop-cell l = record { same : (k : ℕ) → k < l.cell → row_by l.due k ≡ row_by l.found k }
