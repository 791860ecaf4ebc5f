-- A run with an extension, by the ledger: the steps that may be done at it.
use Rattle.std.specs.Prelude.{◌≡◌, ℕ, List, length, drop}
use Rattle.bench_base.specs.Ledger.{Ledger}
use Rattle.node_turns.specs.declared.turn.Turn.{Turn}
use Rattle.ledger_moves.specs.Tariffs.{Tariff}
use Rattle.line_extensions.specs.Trace.{StepRecord}
use Rattle.script_replay.specs.Trace.{ledger_by}
use Rattle.trace_views.specs.Verdicts as views
use Rattle.trace_runs.specs.Audits.{MayTell}

-- a ledger, and the rates that are left there
pub record Place : Type 0 where
  pub ledger : Ledger
  pub left : List ℕ

abbrev pub place : Ledger → List ℕ → Place
place ledger left = record { ledger = ledger; left = left }

-- what the step adds to the ledger, as a turn of a bench has it
abbrev pub turn_at : Tariff → Ledger → StepRecord → Turn
turn_at τ H d = views.turn_at τ H d.event d.text d.reply

-- THE STEP MAY BE DONE at this place, with this turn, and leaves that place
pub record MayStep (τ : Tariff) (old new : Place) (d : StepRecord) (turn : Turn) : Type 0 where
  pub may : MayTell τ old.ledger old.left d
  pub turn_is : turn ≡ turn_at τ old.ledger d
  pub new_is : new ≡ place (ledger_by τ old.ledger d) (drop (length d.text) old.left)
