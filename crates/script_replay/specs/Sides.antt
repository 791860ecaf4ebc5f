-- A run with an extension beside the bench: what was done, and how it ended.
use Rattle.std.specs.Prelude.{◌≡◌, ◌↔◌, ◌≤◌, ℕ, List, [], ◌∷◌, IfSome}
use Rattle.bench_base.specs.Causes.{Rose}
use Rattle.node_turns.specs.declared.turn.Turn.{Turn}
use Rattle.bench.specs.Benches.{Nodes, BenchOf}
use Rattle.line_runs.specs.Ends.{EndsAs, IsByScript, IsComplete}
use Rattle.line_runs.specs.Runs.{Replayed}
use Rattle.line_runs.specs.declared.{status.Status.Status, status.SideStatus.SideStatus, status.SideStatus.TheVariants.Run, status.SideStatus.TheVariants.Stopped}
use Rattle.line_runs.specs.declared.status.Status.TheVariants as status
use Rattle.line_extensions.specs.Trace.{StepRecord}
use Rattle.line_extensions.specs.Desks.{World, world, SideLeaves, side_grammar, side_lines, Does}
use Rattle.line_extensions.specs.SideTrace.{SideStep, steps_of}
use Rattle.line_extensions.specs.declared.extension.Extension.{Ghosts}
use Rattle.script_replay.specs.Chains.{scene, DidEvent, SceneOf}
use Rattle.script_replay.specs.Run.{DidRun, Leaves}
use Rattle.script_replay.specs.Streams.{Streams}

module _ (n : Nodes) where
  -- this was done by a step of the bench with this turn
  abbrev pub StepsBy : SceneOf n → SceneOf n → StepRecord → Turn → Type 0
  StepsBy s t d turn = (did : DidEvent n s t d) × (did.turn ≡ turn)

  module _ {K T : Type 0} (k : Ghosts K T) where
    -- The bench began a run, and extension and bench did the steps. What the bench did of them is what `run` says of a script that has the
    -- events in their place, of the bench that began so.
    pub record DidSide (old new : World (SceneOf n) K) (outcome : SideStatus) (trace : List (SideStep k.Own)) : Type 0 where
      pub begun : BenchOf n
      pub behind : World (SceneOf n) K
      pub did : Does k StepsBy (world (scene begun old.scene.outside) old.desk) behind trace
      pub leaves : SideLeaves (λ s t. Leaves (Run status.Memory) s t) outcome behind new
      pub ended : Status
      pub bench : DidRun n old.scene new.scene ended (steps_of trace)
      pub same : bench.begun ≡ begun

-- what a run did over the words that were given, where it is called by this one
pub record RanSide {K T : Type 0} (k : Ghosts K T) (word : List ℕ) (outcome : SideStatus) (given : List (List ℕ))
    (WasDone : List (SideStep k.Own) → Type 0) (before now : Streams) : Type 0 where
  pub replays : given ≡ word ∷ [] → Replayed (side_lines k) outcome WasDone before.left now.left before.taken now.taken
  pub nothing : (given ≡ word ∷ [] → ⊥) → WasDone []

-- why it ends so
pub record EndsSide {K T : Type 0} (k : Ghosts K T) (word : List ℕ) (outcome : SideStatus) (given : List (List ℕ)) (before now : Streams) : Type 0 where
  pub exact : given ≡ word ∷ [] → IfSome before.left (λ bytes. IsByScript outcome → (s : Status) → (outcome ≡ Run s) ↔ EndsAs (side_grammar k) s bytes)
  pub words : (outcome ≡ Run status.Words) ↔ (given ≡ word ∷ [] → ⊥)
  pub untouched : outcome ≡ Run status.Words → now ≡ before
  pub read_fault : outcome ≡ Run status.ReadFault → Rose before.read_faults now.read_faults
  pub write_fault : outcome ≡ Run status.WriteFault → Rose before.write_faults now.write_faults
  pub read_later : before.read_faults ≤ now.read_faults
  pub write_later : before.write_faults ≤ now.write_faults

-- it comes to its end where no stream failed and no commit of the extension's storage
abbrev pub CompletesSide : {K T : Type 0} (k : Ghosts K T) (word : List ℕ) (outcome : SideStatus) (given : List (List ℕ)) (before now : Streams) → Type 0
CompletesSide k word outcome given before now = given ≡ word ∷ [] → (Rose before.read_faults now.read_faults → ⊥)
    → (Rose before.write_faults now.write_faults → ⊥) → (outcome ≡ Stopped → ⊥)
    → IfSome before.left (λ bytes. (end : EndsAs (side_grammar k) status.Done bytes) → IsComplete (side_grammar k) outcome end.passed)
