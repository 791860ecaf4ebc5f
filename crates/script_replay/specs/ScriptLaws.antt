-- Steps are done one after the other.
use Rattle.std.proofs.Common.{◌≢◌, List, [], ◌∷◌, ◌++◌, refl, sym, subst}
use Rattle.line_runs.specs.declared.status.Status.TheVariants as status
use Rattle.line_runs.specs.declared.{status.SideStatus.SideStatus, status.SideStatus.TheVariants.Run, status.SideStatus.TheVariants.Stopped}
use Rattle.line_runs.specs.Turns.{AreDone}
use Rattle.bench.specs.Benches.{Nodes}
use Rattle.line_extensions.specs.Trace.{StepRecord, done_in}
use Rattle.line_extensions.specs.ScriptLaws.{done_both}
use Rattle.script_replay.specs.Chains.{Scene, DidEvents, DidTrace, SceneOf}
use Rattle.script_replay.specs.Run.{Leaves}

leaves_same : {D C H V : Type 0} (s : SideStatus) (b : Scene D C H V) → s ≢ Run status.Memory → Leaves s b b
leaves_same (Run status.Done) b other = refl
leaves_same (Run status.Words) b other = refl
leaves_same (Run (status.Script line)) b other = refl
leaves_same (Run status.ReadFault) b other = refl
leaves_same (Run status.WriteFault) b other = refl
leaves_same (Run status.Memory) b other = absurd (other refl)
leaves_same (Run status.TooLong) b other = refl
leaves_same Stopped b other = refl

module _ (n : Nodes) where
  both : (x y z : SceneOf n) (a b : List StepRecord) → DidEvents n x y a → DidEvents n y z b → DidEvents n x z (a ++ b)
  both x y z [] b p q = subst (λ (w : SceneOf n). DidEvents n w z b) p q
  both x y z (d ∷ a) b p q = (p.0, p.1, both p.0 y z a b p.2 q)

  pub all_done : AreDone (DidEvents n) (λ s. Leaves s)
  all_done = record { nothing = λ b. refl; both = both; rests = leaves_same }

  -- and those of lines
  pub are_done : AreDone (DidTrace n) (λ s. Leaves s)
  are_done = record {
    nothing = λ b. refl;
    both = λ x y z a b p q. subst (λ (l : List StepRecord). DidEvents n x z l) (sym (done_both a b)) (both x y z (done_in a) (done_in b) p q);
    rests = leaves_same;
  }
