-- A run with claims from nothing.
use Rattle.std.specs.Prelude.{◌≡◌, ℕ, List, [], ◌∷◌, None, false}
use Rattle.bench_base.specs.declared.ledger.Entry.TheVariants.{Begin}
use Rattle.nv_model.specs.declared.nv.Nv as nv
use Rattle.line_runs.specs.declared.status.SideStatus.{SideStatus}
use Rattle.line_extensions.specs.Desks.{world}
use Rattle.line_extensions.specs.SideTrace.{SideStep, steps_of}
use Rattle.ledger_moves.specs.Tariffs.{Tariff}
use Rattle.bench_abstraction.specs.Tariff.{IsOfTexts}
use Rattle.bench.specs.Benches.{Nodes}
use Rattle.script_replay.specs.Chains.{SceneOf}
use Rattle.script_replay.specs.Trace.{ledger_after, AreUnforged}
use Rattle.script_replay.specs.Fresh.{DidFresh}
use Rattle.script_replay.specs.Run.{Unforged}
use Rattle.spoil_claims.specs.Claims.{kept}
use Rattle.spoil_claims.specs.Follows.{FollowLedger}
use Rattle.spoil_claims.specs.Holds.{ClaimsHold}
use Rattle.spoil_claims.specs.Ran.{DidClaims}
use Rattle.spoil_claims.specs.Storage.{with_torn}
use Rattle.spoil_claims.specs.View.{rows_of, has_failed}
use Rattle.spoil_claims.specs.declared.{claim.ClaimLine.ClaimLine, desk.Desk.Desk}

-- the desk keeps no claim
abbrev pub KeepsNone : {N : Type 0} {own : nv.Ghosts N} → Desk N own → Type 0
KeepsNone desk = (c : ℕ) → kept (rows_of desk) c ≡ None

-- A desk without a claim, and a bench that represented the empty ledger, did the steps: all that is said of a run with claims by a history is so.
pub record DidFreshClaims (n : Nodes) {N : Type 0} (own : nv.Ghosts N) (old new : SceneOf n) (outcome : SideStatus)
    (trace : List (SideStep ClaimLine)) : Type 0 where
  pub before : Desk N own
  pub after : Desk N own
  pub none : KeepsNone before
  pub works : has_failed before ≡ false
  pub did : DidClaims n own (world old before) (world new after) outcome trace
  pub bench : DidFresh n old new did.side.ended (steps_of trace)
  pub follows : (τ : Tariff) → IsOfTexts τ → FollowLedger τ (Begin ∷ []) (rows_of before) trace (rows_of after) did.answers
  pub holds : (τ : Tariff) → IsOfTexts τ → AreUnforged τ Unforged (Begin ∷ []) (steps_of trace)
      → ClaimsHold (rows_of after) (ledger_after τ (Begin ∷ []) (steps_of trace))
      × ClaimsHold (with_torn did.torn (rows_of after)) (ledger_after τ (Begin ∷ []) (steps_of trace))
