-- What a run with an extension did, by what the extension and the bench did of its lines.
use Rattle.std.proofs.Common.{◌≡◌, ℕ, List, [], ◌∷◌, Option, None, subst}
use Rattle.bench_base.specs.declared.ledger.Entry.TheVariants.{Begin}
use Rattle.bench_base.specs.Ledger.{Ledger}
use Rattle.bench_base.specs.Rules.{editions}
use Rattle.ledger_terms.specs.Editions.{Editions}
use Rattle.ledger_laws.specs.Laws.{ForHistories, Holds}
use Rattle.bench.specs.Benches.{Nodes, IsReady, Stands, BenchOf}
use Rattle.bench.specs.Places.{Begun}
use Rattle.line_runs.specs.Trace.{Lines}
use Rattle.line_runs.specs.Runs.{Replayed}
use Rattle.line_runs.specs.Turns.{Ended}
use Rattle.line_runs.specs.declared.status.Status.TheVariants as status
use Rattle.line_runs.specs.declared.{status.SideStatus.SideStatus, status.SideStatus.TheVariants.Run}
use Rattle.line_extensions.specs.Desks.{World, world, SideLeaves, Does}
use Rattle.line_extensions.specs.DeskLaws.{bench_part}
use Rattle.line_extensions.specs.SideTrace.{SideStep, steps_of}
use Rattle.line_extensions.specs.declared.extension.Extension.{Ghosts}
use Rattle.script_replay.specs.Chains.{scene, DidEvents, SceneOf}
use Rattle.script_replay.specs.Run.{Leaves}
use Rattle.script_replay.specs.Sides.{StepsBy, DidSide}
use Rattle.script_replay.specs.SideLaws.{is_chain, leaves_as}
use Rattle.script_replay.proofs.Running.{did_run, began_so}

module _ {K T : Type 0} (n : Nodes) (k : Ghosts K T)
    (today : Editions editions) (holds : ForHistories Holds) (old : World (SceneOf n) K) (begun : BenchOf n) (ready : IsReady old.scene.bench) (ready' : IsReady begun)
    (begins : Begun n old.scene.bench begun) (no_day : begun.day ≡ None) (no_messages : begun.messages ≡ []) (no_rates : begun.rates ≡ None)
    (begins_stands : (L : Ledger) → Stands n old.scene.bench L → Stands n begun (Begin ∷ L)) where
  pub did_side : (outcome : SideStatus) (new : World (SceneOf n) K) (trace : List (SideStep k.Own))
      → Ended (Does k (StepsBy n)) (SideLeaves (λ s t. Leaves (Run status.Memory) s t)) outcome (world (scene begun old.scene.outside) old.desk) new trace → DidSide n k old new outcome trace
  did_side outcome new trace e =
      let left = leaves_as outcome e.behind new e.leaves in
      let of_bench : Ended (DidEvents n) (λ s. Leaves s) (Run left.0) (scene begun old.scene.outside) new.scene (steps_of trace) =
      record { behind = e.behind.scene; did = bench_part k (StepsBy n) (DidEvents n) (is_chain n) (world (scene begun old.scene.outside) old.desk) e.behind trace e.did; leaves = left.1 } in
      record {
        begun = begun;
        behind = e.behind;
        did = e.did;
        leaves = e.leaves;
        ended = left.0;
        bench = did_run n today holds old.scene begun ready ready' begins no_day no_messages no_rates begins_stands left.0 new.scene (steps_of trace) of_bench;
        same = began_so n today holds old.scene begun ready ready' begins no_day no_messages no_rates begins_stands left.0 new.scene (steps_of trace) of_bench;
      }

-- a run over lines does not end so
pub never_words : {D : Type 0} (l : Lines D) (outcome : SideStatus) (P : List D → Type 0) (a b t u : Option (List ℕ)) → Replayed l outcome P a b t u → outcome ≡ Run status.Words → ⊥
never_words l outcome P a b t u r is = let w : Replayed l (Run status.Words) P a b t u = subst (λ (s : SideStatus). Replayed l s P a b t u) is r in w.ends
