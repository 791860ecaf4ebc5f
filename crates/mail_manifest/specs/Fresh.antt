-- A run with a manifest from nothing.
use Rattle.std.specs.Prelude.{List, [], ◌∷◌}
use Rattle.bench_base.specs.declared.ledger.Entry.TheVariants.{Begin}
use Rattle.bench.specs.Benches.{Nodes}
use Rattle.bench_abstraction.specs.Tariff.{IsOfTexts}
use Rattle.line_runs.specs.declared.status.SideStatus.{SideStatus}
use Rattle.line_extensions.specs.SideTrace.{SideStep, steps_of}
use Rattle.ledger_moves.specs.Tariffs.{Tariff}
use Rattle.script_replay.specs.Chains.{SceneOf}
use Rattle.script_replay.specs.Trace.{ledger_after, AreUnforged}
use Rattle.script_replay.specs.Fresh.{DidFresh}
use Rattle.script_replay.specs.Run.{Unforged}
use Rattle.mail_manifest.specs.Holds.{YesHolds}
use Rattle.mail_manifest.specs.Ran.{DidManifest}
use Rattle.mail_manifest.specs.declared.opening.ManifestLine.{ManifestLine}

-- A checker without a manifest, and a bench that represented the empty ledger, did the steps: all that is said of a run with a manifest by a history is so.
pub record DidFreshManifest (n : Nodes) (old new : SceneOf n) (outcome : SideStatus) (trace : List (SideStep ManifestLine)) : Type 0 where
  pub did : DidManifest n old new outcome trace
  pub bench : DidFresh n old new did.side.ended (steps_of trace)
  pub holds : (τ : Tariff) → IsOfTexts τ → AreUnforged τ Unforged (Begin ∷ []) (steps_of trace) → YesHolds trace (ledger_after τ (Begin ∷ []) (steps_of trace))
