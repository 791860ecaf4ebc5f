-- Steps that may be done in turn over a history leave a history.
use Rattle.std.proofs.Common.{ℕ, List, [], ◌∷◌, drop, length}
use Rattle.bench_base.specs.Ledger.{Ledger}
use Rattle.bench_base.specs.Rules.{editions}
use Rattle.ledger_moves.specs.Tariffs.{Tariff}
use Rattle.ledger_moves.specs.Histories.{History, moves}
use Rattle.line_extensions.specs.Trace.{StepRecord}
use Rattle.script_replay.specs.Trace.{ledger_by, ledger_after}
use Rattle.trace_runs.specs.Fitting.{AreTold}
use Rattle.trace_runs.specs.Audits.{IsRun}

pub trace_runs : (τ : Tariff) (H : Ledger) (left : List ℕ) (trace : List StepRecord) → History τ editions H → AreTold τ H left trace → History τ editions (ledger_after τ H trace)
trace_runs τ H left [] history are = history
trace_runs τ H left (d ∷ rest) history are = trace_runs τ (ledger_by τ H d) (drop (length d.text) left) rest (moves d.event d.text d.reply history are.0.unforged are.0.moves) are.1

all_told : (τ : Tariff) (H : Ledger) (left : List ℕ) (trace : List StepRecord) → IsRun τ H left trace → AreTold τ H left trace
all_told τ H left [] run = tt
all_told τ H left (d ∷ rest) run = (run.0.tells, all_told τ (ledger_by τ H d) (drop (length d.text) left) rest run.1)

pub runs : (τ : Tariff) (H : Ledger) (left : List ℕ) (trace : List StepRecord) → History τ editions H → IsRun τ H left trace → History τ editions (ledger_after τ H trace)
runs τ H left trace history run = trace_runs τ H left trace history (all_told τ H left trace run)
