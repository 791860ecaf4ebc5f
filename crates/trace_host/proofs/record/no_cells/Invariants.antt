use Rattle.std.proofs.Common.{◌≡◌, ◌<◌, ℕ, get_or, length, None}
use Rattle.trace_host.proofs.record.no_cells.Given as goal

abbrev pub invariant-loop-cell : goal.invariant-loop-cell
invariant-loop-cell l = record { long : length l.cells.items ≡ l._cell; blank : (k : ℕ) → k < l._cell → get_or l.cells.items k None ≡ None }
