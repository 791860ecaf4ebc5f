-- What a run with claims did.
use Rattle.std.specs.Prelude.{◌∷◌, List, Option}
use Rattle.bench_base.specs.declared.ledger.Entry.TheVariants.{Begin}
use Rattle.bench_base.specs.Ledger.{Ledger}
use Rattle.nv_model.specs.declared.nv.Nv as nv
use Rattle.line_runs.specs.declared.status.SideStatus.{SideStatus}
use Rattle.line_extensions.specs.Desks.{World, world}
use Rattle.line_extensions.specs.Moves.{EachMove}
use Rattle.line_extensions.specs.SideTrace.{SideStep, steps_of}
use Rattle.ledger_moves.specs.Tariffs.{Tariff}
use Rattle.bench_abstraction.specs.Tariff.{IsOfTexts}
use Rattle.bench.specs.Benches.{Nodes}
use Rattle.script_replay.specs.Chains.{SceneOf, scene}
use Rattle.script_replay.specs.Trace.{ledger_after, AreUnforged}
use Rattle.script_replay.specs.Run.{Unforged}
use Rattle.script_replay.specs.Sides.{StepsBy, DidSide}
use Rattle.script_replay.specs.Throughout.{StandsFor}
use Rattle.spoil_claims.specs.Answers.{AreAnswered}
use Rattle.spoil_claims.specs.ClaimsDesk.{claims_desk}
use Rattle.spoil_claims.specs.Follows.{FollowLedger}
use Rattle.spoil_claims.specs.Holds.{AreBacked, ClaimsHold}
use Rattle.spoil_claims.specs.Storage.{LeavesStorage, ShownMeanwhile, with_torn}
use Rattle.spoil_claims.specs.View.{rows_of}
use Rattle.spoil_claims.specs.declared.{claim.ClaimLine.ClaimLine, claim.ClaimRow.ClaimRow, desk.Desk.Desk}

-- The desk and the bench did the steps, and each line about claims has its answer, by the claims that were kept then and by the reply to its scan. A
-- commit may be in doubt: a later boot then finds the claims without it or with it. At every crash point of the run the possible contents show the
-- claims that are kept then, or these with the one commit in hand. Suppose that the bench represented a history, and that the claims of earlier runs
-- are backed by it. Then the claims that are kept at each line hold by the ledger so far, and `credits` is answered by it, up to the first forged
-- event. If nothing was forged, the claims without the commit in doubt and those with it hold by the ledger that the steps leave.
pub record DidClaims (n : Nodes) {N : Type 0} (own : nv.Ghosts N) (old new : World (SceneOf n) (Desk N own)) (outcome : SideStatus)
    (trace : List (SideStep ClaimLine)) : Type 0 where
  pub side : DidSide n (claims_desk own) old new outcome trace
  pub answers : AreAnswered (rows_of old.desk) trace (rows_of new.desk)
  pub follows : (τ : Tariff) (L : Ledger) → IsOfTexts τ → StandsFor n τ old.scene.bench L → n.storage.tells → AreBacked (rows_of old.desk) L
      → FollowLedger τ (Begin ∷ L) (rows_of old.desk) trace (rows_of new.desk) answers
  pub torn : Option ClaimRow
  pub storage : LeavesStorage old.desk new.desk outcome trace torn
  pub throughout : EachMove (claims_desk own) (StepsBy n) ShownMeanwhile (world (scene side.begun old.scene.outside) old.desk) side.behind trace side.did
  pub holds : (τ : Tariff) (L : Ledger) → IsOfTexts τ → StandsFor n τ old.scene.bench L → n.storage.tells → AreBacked (rows_of old.desk) L
      → AreUnforged τ Unforged (Begin ∷ L) (steps_of trace)
      → ClaimsHold (rows_of new.desk) (ledger_after τ (Begin ∷ L) (steps_of trace))
      × ClaimsHold (with_torn torn (rows_of new.desk)) (ledger_after τ (Begin ∷ L) (steps_of trace))
