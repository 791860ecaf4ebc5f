-- What a run with a manifest did.
use Rattle.std.specs.Prelude.{◌≡◌, List, ◌∷◌, None}
use Rattle.bench_base.specs.declared.ledger.Entry.TheVariants.{Begin}
use Rattle.bench_base.specs.Ledger.{Ledger}
use Rattle.line_runs.specs.declared.status.SideStatus.{SideStatus}
use Rattle.line_extensions.specs.Desks.{world}
use Rattle.line_extensions.specs.SideTrace.{SideStep, steps_of}
use Rattle.ledger_moves.specs.Tariffs.{Tariff}
use Rattle.bench_abstraction.specs.Tariff.{IsOfTexts}
use Rattle.bench.specs.Benches.{Nodes}
use Rattle.script_replay.specs.Chains.{SceneOf}
use Rattle.script_replay.specs.Trace.{ledger_after, AreUnforged}
use Rattle.script_replay.specs.Run.{Unforged}
use Rattle.script_replay.specs.Sides.{DidSide}
use Rattle.script_replay.specs.Throughout.{StandsFor}
use Rattle.mail_manifest.specs.Answers.{AreAnswered}
use Rattle.mail_manifest.specs.CheckerDesk.{checker_desk}
use Rattle.mail_manifest.specs.Holds.{YesHolds}
use Rattle.mail_manifest.specs.View.{listing_of}
use Rattle.mail_manifest.specs.declared.{checker.Checker.Checker, opening.ManifestLine.ManifestLine}

-- A checker that had no manifest and the bench did the steps. Each line about the manifest has its answer, by the manifest that was opened last and
-- by the replies to its scans. If the bench represented a history, and nothing was forged, each manifest that was found good holds by the ledger
-- that the steps leave.
pub record DidManifest (n : Nodes) (old new : SceneOf n) (outcome : SideStatus) (trace : List (SideStep ManifestLine)) : Type 0 where
  pub before : Checker
  pub after : Checker
  pub none : listing_of before ≡ None
  pub side : DidSide n checker_desk (world old before) (world new after) outcome trace
  pub answers : AreAnswered None trace (listing_of after)
  pub holds : (τ : Tariff) (L : Ledger) → IsOfTexts τ → StandsFor n τ old.bench L → n.storage.tells
      → AreUnforged τ Unforged (Begin ∷ L) (steps_of trace)
      → YesHolds trace (ledger_after τ (Begin ∷ L) (steps_of trace))
