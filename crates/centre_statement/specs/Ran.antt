-- What a run with statements did.
use Rattle.std.specs.Prelude.{◌≡◌, ◌∷◌, ℕ, List, None, codes}
use Rattle.bench_base.specs.declared.ledger.Entry.TheVariants.{Begin}
use Rattle.bench_base.specs.Ledger.{Ledger}
use Rattle.bench.specs.Benches.{Nodes}
use Rattle.bench_abstraction.specs.Tariff.{IsOfTexts}
use Rattle.line_runs.specs.declared.status.SideStatus.{SideStatus}
use Rattle.line_extensions.specs.Desks.{world}
use Rattle.line_extensions.specs.SideTrace.{SideStep, steps_of}
use Rattle.ledger_moves.specs.Tariffs.{Tariff}
use Rattle.script_replay.specs.Chains.{SceneOf}
use Rattle.script_replay.specs.Trace.{AreUnforged}
use Rattle.script_replay.specs.Run.{Unforged}
use Rattle.script_replay.specs.Sides.{DidSide, RanSide}
use Rattle.script_replay.specs.Streams.{Streams}
use Rattle.script_replay.specs.Throughout.{StandsFor}
use Rattle.centre_statement.specs.Desk.{view_of, fresh}
use Rattle.centre_statement.specs.Movements.{AreStated}
use Rattle.centre_statement.specs.StatementsDesk.{statements_desk}
use Rattle.centre_statement.specs.declared.{desk.StatementDesk.StatementDesk, lines.OwnLine.OwnLine}

-- Desk and bench did the steps, from this desk on: what the desk does and answers for each line is in its own definitions. If the bench represented
-- a history, and nothing was forged, each statement has the movements that were counted while it was open.
pub record DidStatements (n : Nodes) (old new : SceneOf n) (before now : StatementDesk) (outcome : SideStatus) (trace : List (SideStep OwnLine)) : Type 0 where
  pub side : DidSide n statements_desk (world old before) (world new now) outcome trace
  pub stated : (τ : Tariff) (L : Ledger) → IsOfTexts τ → StandsFor n τ old.bench L → n.storage.tells → AreUnforged τ Unforged (Begin ∷ L) (steps_of trace)
      → AreStated τ None (Begin ∷ L) trace

-- It was run with a desk that had seen nothing.
pub record RanStatement (n : Nodes) (outcome : SideStatus) (given : List (List ℕ)) (old new : SceneOf n) (before now : Streams) : Type 0 where
  pub desk : StatementDesk
  pub after : StatementDesk
  pub starts : view_of desk ≡ fresh
  pub ran : RanSide statements_desk (codes "statement") outcome given (DidStatements n old new desk after outcome) before now
