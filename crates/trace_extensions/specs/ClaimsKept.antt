-- What is promised of the claims that an audit infers.
use Rattle.std.specs.Prelude.{◌≡◌, ℕ, List, [], ◌∷◌, Option, Some}
use Rattle.bench_base.specs.declared.ledger.Entry.TheVariants.{Begin}
use Rattle.bench_base.specs.Ledger.{Ledger}
use Rattle.bench_base.specs.Rules.{editions}
use Rattle.bench_abstraction.specs.Tariff.{IsOfTexts}
use Rattle.ledger_moves.specs.Histories.{History}
use Rattle.ledger_moves.specs.Tariffs.{Tariff}
use Rattle.line_extensions.specs.Desks.{side_lines}
use Rattle.line_extensions.specs.SideTrace.{SideStep, steps_of}
use Rattle.line_runs.specs.Runs.{Replayed}
use Rattle.line_runs.specs.declared.status.Status.{Status}
use Rattle.line_runs.specs.declared.status.SideStatus.TheVariants.{Run}
use Rattle.script_replay.specs.Run.{Unforged}
use Rattle.script_replay.specs.Trace.{ledger_after, AreUnforged}
use Rattle.spoil_claims.specs.Answers.{AreAnswered}
use Rattle.spoil_claims.specs.Claims.{Claims, AreNumbered}
use Rattle.spoil_claims.specs.ClaimsDesk.{by_keeper}
use Rattle.spoil_claims.specs.Follows.{FollowLedger}
use Rattle.spoil_claims.specs.Holds.{AreBacked, ClaimsHold}
use Rattle.spoil_claims.specs.declared.claim.ClaimLine.{ClaimLine}
use Rattle.trace_bench.specs.Seeing.{Audit}
use Rattle.trace_runs.specs.Between.{SeesBetween}
use Rattle.trace_runs.specs.Verdicts.{status_of}
use Rattle.trace_runs.specs.declared.verdict.Ending.{Ending}
use Rattle.trace_extensions.specs.ClaimsModel.{Standing, standing_keeper, claims_model}
use Rattle.trace_extensions.specs.Fits.{AtKnown}
use Rattle.trace_extensions.specs.declared.{papers.SideVerdict.SideVerdict, papers.SideVerdict.TheVariants.Lawful}

-- THE PREMISE ON AN AUDIT: before a run it saw this history, by a tariff of texts, and the claims that it had are backed by that, each under its number.
pub record AtBacked (audit : Audit) (rows : Claims) (τ : Tariff) (H : Ledger) : Type 0 where
  pub texts : IsOfTexts τ
  pub history : History τ editions H
  pub sees : SeesBetween audit H
  pub numbers : AreNumbered rows
  pub backed : AreBacked rows H

-- These lines were done from ledger H and these claims on, and left ledger K and those. Nothing in them was forged. Each line about claims has its
-- answer, by the claims that were kept then and by the reply to its scan. At each line the claims hold by the ledger so far, and `credits` is answered
-- by what was debited. So the claims that are left hold by the ledger that is left.
pub record KeepClaims (τ : Tariff) (H : Ledger) (rows : Claims) (K : Ledger) (after : Claims) (trace : List (SideStep ClaimLine)) : Type 0 where
  pub unforged : AreUnforged τ Unforged H (steps_of trace)
  pub ledger : K ≡ ledger_after τ H (steps_of trace)
  pub answers : AreAnswered rows trace after
  pub follows : FollowLedger τ H rows trace after answers
  pub holds : ClaimsHold after K

-- A RUN KEEPS CLAIMS: the lines of this script, which were answered by this report, keep them so.
pub record RunKeepsClaims (τ : Tariff) (H : Ledger) (rows : Claims) (status : Status) (script report : List ℕ) (K : Ledger) (after : Claims) : Type 0 where
  pub left : List ℕ
  pub run : Replayed (side_lines (by_keeper standing_keeper)) (Run status) (KeepClaims τ H rows K after) (Some script) (Some left) (Some []) (Some report)

-- the run leaves a ledger with which the premise holds of the next one
pub record LeavesBacked (τ : Tariff) (H : Ledger) (rows after : Claims) (status : Status) (script report : List ℕ) (new : Audit) : Type 0 where
  pub ledger : Ledger
  pub keeps : RunKeepsClaims τ (Begin ∷ H) rows status script report ledger after
  pub backed : AtBacked new after τ ledger

-- IF A VERDICT IS LAWFUL, the run kept claims, from each history that the auditor had and that backed them, and the next run may begin with what it left.
abbrev pub KeptIfLawful : Option (List ℕ) → Option (List ℕ) → Standing → Standing → Audit → Audit → SideVerdict → Type 0
KeptIfLawful script report v w old new verdict = AtKnown claims_model script report (λ text told. (end : Ending) → verdict ≡ Lawful end
    → (τ : Tariff) (H : Ledger) → AtBacked old v.rows τ H → LeavesBacked τ H v.rows w.rows (status_of end) text told new)
