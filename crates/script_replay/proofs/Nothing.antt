-- A run with an extension from nothing.
use Rattle.std.proofs.Common.{ℕ, List, []}
use Rattle.bench.specs.Benches.{Nodes, Stands}
use Rattle.ledger_moves.specs.Histories.{History}
use Rattle.ledger_moves.specs.Tariffs.{Tariff}
use Rattle.line_runs.proofs.Turns.{said}
use Rattle.line_runs.specs.declared.{status.Status.Status, status.SideStatus.SideStatus}
use Rattle.line_extensions.specs.Trace.{StepRecord}
use Rattle.line_extensions.specs.Desks.{side_lines}
use Rattle.line_extensions.specs.SideTrace.{SideStep}
use Rattle.line_extensions.specs.declared.extension.Extension.{Ghosts}
use Rattle.script_replay.specs.Chains.{SceneOf}
use Rattle.script_replay.specs.Fresh.{DidFresh}
use Rattle.script_replay.specs.Run.{DidRun}
use Rattle.script_replay.specs.Sides.{RanSide}
use Rattle.script_replay.specs.Streams.{Streams}
use Rattle.script_replay.specs.Throughout.{StandsFor}
use Rattle.script_replay.proofs.Running.{from_nothing}

-- the same steps, with more said of them
pub side_said : {K T : Type 0} (k : Ghosts K T) (word : List ℕ) (outcome : SideStatus) (given : List (List ℕ)) (P Q : List (SideStep k.Own) → Type 0) (before now : Streams)
    → ((trace : List (SideStep k.Own)) → P trace → Q trace) → RanSide k word outcome given P before now → RanSide k word outcome given Q before now
side_said k word outcome given P Q before now more r = record {
  replays = λ is. said (side_lines k) P Q outcome before.left now.left before.taken now.taken more (r.replays is);
  nothing = λ other. more [] (r.nothing other);
}

module _ (n : Nodes) (old new : SceneOf n) (stands : Stands n old.bench []) where
  -- a bench that represents nothing represents the empty history
  pub stands_for_none : (τ : Tariff) → StandsFor n τ old.bench []
  stands_for_none τ = record { history = History.nothing; stands = stands }

  -- what the bench did
  pub bench_fresh : (outcome : Status) (trace : List StepRecord) → DidRun n old new outcome trace → n.storage.tells → DidFresh n old new outcome trace
  bench_fresh outcome trace did tells = from_nothing n old new outcome trace did stands tells
