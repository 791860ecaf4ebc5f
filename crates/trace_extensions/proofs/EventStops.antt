-- A run that was stopped at an event: what the auditor then has looks like what the stop leaves.
use Rattle.std.proofs.Common.{ℕ, List, [], refl}
use Rattle.bench_base.specs.declared.events.Event.{Event}
use Rattle.bench_base.specs.Events.{IsWholeEvent}
use Rattle.bench_base.specs.Ledger.{Ledger}
use Rattle.bench_base.specs.Rules.{editions}
use Rattle.ledger_terms.specs.Editions.{Editions}
use Rattle.ledger_moves.specs.Tariffs.{Tariff}
use Rattle.ledger_moves.specs.Histories.{History, Unforged}
use Rattle.script_text.specs.Texts.{text_of}
use Rattle.line_runs.specs.Lines.{IsOneLine}
use Rattle.line_extensions.specs.Trace.{done}
use Rattle.trace_bench.specs.Judging.{text_with}
use Rattle.trace_bench.specs.Seeing.{Audit}
use Rattle.trace_bench.specs.Stopping.{IsBegun}
use Rattle.trace_runs.specs.Between.{SeesBetween}
use Rattle.trace_runs.specs.Fitting.{BeginsTold}
use Rattle.trace_runs.specs.Runs.{StopLeaves}
use Rattle.trace_runs.proofs.Left.{right_plan, left_seen, left_some, left_history}
use Rattle.trace_extensions.proofs.Cuts.{front_one}
use Rattle.trace_extensions.proofs.Lines.{one_text_line}

-- the event was begun, and the stop may leave this
pub begun_seen : Editions editions → (τ : Tariff) (H : Ledger) (e : Event) (left told : List ℕ) (now : Audit) (K : Ledger) → History τ editions H → Unforged e H × IsBegun τ H e left told now
    → StopLeaves τ H e left told K → SeesBetween now K
begun_seen E τ H e left told now K history (unforged, begun) leaves =
    let whole : IsWholeEvent e = begun.may.moves.0 in
    left_seen τ H e left told (right_plan τ H e _ E history whole unforged) now K whole begun.leaves leaves

-- what was written of its line has no line end
pub told_one : (τ : Tariff) (H : Ledger) (e : Event) (left told : List ℕ) → BeginsTold τ H left e told → IsOneLine told
told_one τ H e left told begins = front_one (text_of begins.0.reply) told (one_text_line begins.0.reply begins.2.whole) begins.3

-- so the run may have been stopped there, and leave a ledger that the auditor then sees
pub may_leave : Editions editions → (τ : Tariff) (H : Ledger) (e : Event) (left told : List ℕ) (now : Audit) → History τ editions H → Unforged e H × IsBegun τ H e left told now
    → (K : Ledger) × BeginsTold τ H left e told × StopLeaves τ H e left told K × History τ editions K × SeesBetween now K
may_leave E τ H e left told now history (unforged, begun) =
    let left_so = left_some τ H e left told now begun.leaves in (
      left_so.0,
      (done e (text_with τ H e left told begun.reply) begun.reply [], refl, record { unforged = unforged; moves = begun.may.moves; whole = begun.may.whole; takes = refl }, begun.may.begins),
      left_so.1,
      left_history τ H e left told left_so.0 history begun.may.moves.0 unforged left_so.1,
      begun_seen E τ H e left told now left_so.0 history (unforged, begun) left_so.1,
    )
