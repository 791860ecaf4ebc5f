use Rattle.std.proofs.Common.{◌≢◌, List, ℕ, Option, subst}
use Rattle.line_extensions.specs.Trace.{TraceStep}
use Rattle.line_extensions.specs.Scripts.{script_lines}
use Rattle.line_runs.specs.Runs.{Replayed}
use Rattle.line_runs.specs.declared.{status.Status.Status, status.SideStatus.TheVariants.Run}
use Rattle.line_runs.specs.declared.status.Status.TheVariants as status

has_words : (s : Status) (P : List TraceStep → Type 0) (a b t u : Option (List ℕ)) → Replayed script_lines (Run s) P a b t u → s ≢ status.Words
has_words s P a b t u r is = let w : Replayed script_lines (Run status.Words) P a b t u = subst (λ (x : Status). Replayed script_lines (Run x) P a b t u) is r in w.ends
