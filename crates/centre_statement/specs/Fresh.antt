-- A run with statements from nothing.
use Rattle.std.specs.Prelude.{◌≡◌, List, [], ◌∷◌, None}
use Rattle.bench_base.specs.declared.ledger.Entry.TheVariants.{Begin}
use Rattle.bench.specs.Benches.{Nodes}
use Rattle.bench_abstraction.specs.Tariff.{IsOfTexts}
use Rattle.line_runs.specs.declared.status.SideStatus.{SideStatus}
use Rattle.line_extensions.specs.SideTrace.{SideStep, steps_of}
use Rattle.ledger_moves.specs.Tariffs.{Tariff}
use Rattle.script_replay.specs.Chains.{SceneOf}
use Rattle.script_replay.specs.Trace.{AreUnforged}
use Rattle.script_replay.specs.Fresh.{DidFresh}
use Rattle.script_replay.specs.Run.{Unforged}
use Rattle.centre_statement.specs.Desk as its
use Rattle.centre_statement.specs.Movements.{AreStated}
use Rattle.centre_statement.specs.Ran.{DidStatements}
use Rattle.centre_statement.specs.declared.{desk.StatementDesk.StatementDesk, lines.OwnLine.OwnLine}

-- A desk that had seen nothing, and a bench that represented the empty ledger, did the steps: all that is said of a run with statements by a history is so.
pub record DidFreshStatements (n : Nodes) (old new : SceneOf n) (outcome : SideStatus) (trace : List (SideStep OwnLine)) : Type 0 where
  pub before : StatementDesk
  pub after : StatementDesk
  pub starts : its.view_of before ≡ its.fresh
  pub did : DidStatements n old new before after outcome trace
  pub bench : DidFresh n old new did.side.ended (steps_of trace)
  pub stated : (τ : Tariff) → IsOfTexts τ → AreUnforged τ Unforged (Begin ∷ []) (steps_of trace) → AreStated τ None (Begin ∷ []) trace
