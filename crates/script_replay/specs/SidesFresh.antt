-- A run with an extension from nothing: on a bench over blank storages in memory.
use Rattle.std.specs.Prelude.{ℕ, List}
use Rattle.bench.specs.Benches.{Nodes, BenchOf}
use Rattle.line_runs.specs.declared.status.SideStatus.{SideStatus}
use Rattle.line_extensions.specs.SideTrace.{SideStep}
use Rattle.line_extensions.specs.declared.extension.Extension.{Ghosts}
use Rattle.script_replay.specs.Chains.{SceneOf, scene}
use Rattle.script_replay.specs.Sides.{RanSide, EndsSide, CompletesSide}
use Rattle.script_replay.specs.Streams.{Streams}

-- a run with an extension on a bench that was made for it, with the rates and the printer that were handed in: all that such a run says
pub record RanSideFresh (n : Nodes) {K T : Type 0} (k : Ghosts K T) (IsMade : BenchOf n → Type 0) (word : List ℕ) (outcome : SideStatus) (given : List (List ℕ))
    (WasDone : SceneOf n → SceneOf n → List (SideStep k.Own) → Type 0) (before now : Streams) : Type 0 where
  pub old : BenchOf n
  pub new : BenchOf n
  pub made : IsMade old
  pub ran : RanSide k word outcome given (λ trace. WasDone (scene old before.outside) (scene new now.outside) trace) before now
  pub ends : EndsSide k word outcome given before now
  pub completes : CompletesSide k word outcome given before now
