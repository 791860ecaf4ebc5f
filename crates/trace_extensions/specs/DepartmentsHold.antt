-- What is promised of departments holds for the quotas and jobs that an audit infers.
use Rattle.std.specs.Prelude.{◌≡◌, ℕ, List, [], ◌∷◌, Option, Some, None, IfSome}
use Rattle.bench_base.specs.declared.ledger.Entry.TheVariants.{Begin}
use Rattle.bench_base.specs.Ledger.{Ledger}
use Rattle.bench_base.specs.Rules.{editions}
use Rattle.bench_abstraction.specs.Tariff.{IsOfTexts}
use Rattle.ledger_moves.specs.Tariffs.{Tariff}
use Rattle.ledger_moves.specs.Histories.{History}
use Rattle.line_runs.specs.Runs.{Replayed}
use Rattle.line_runs.specs.declared.status.SideStatus.TheVariants.{Run}
use Rattle.line_extensions.specs.Desks.{side_lines}
use Rattle.line_extensions.specs.SideTrace.{SideStep, steps_of}
use Rattle.script_replay.specs.Run.{Unforged}
use Rattle.script_replay.specs.Trace.{AreUnforged}
use Rattle.host_departments.specs.Answers.{AreAnswered}
use Rattle.host_departments.specs.ByKeeper.{by_keeper}
use Rattle.host_departments.specs.Follows.{FollowLedger}
use Rattle.host_departments.specs.Holds.{AreBacked, DepartmentsHold}
use Rattle.host_departments.specs.Ran.{IsWithinQuotas, IsOfOne, AllAssigned}
use Rattle.host_departments.specs.Rows.{Rows, Agree}
use Rattle.host_departments.specs.declared.row.DepartmentLine.{DepartmentLine}
use Rattle.trace_bench.specs.Seeing.{Audit}
use Rattle.trace_runs.specs.Between.{SeesBetween}
use Rattle.trace_runs.specs.Verdicts.{status_of}
use Rattle.trace_runs.specs.declared.verdict.Ending.{Ending}
use Rattle.trace_extensions.specs.DepartmentsModel.{Kept, kept_keeper}
use Rattle.trace_extensions.specs.Places.{Place, place, MayStep}
use Rattle.trace_extensions.specs.declared.{papers.SideVerdict.SideVerdict, papers.SideVerdict.TheVariants.Lawful}

-- EACH LINE WAS ANSWERED by the quotas and jobs that were kept then, and by what was heard of its message. No event was forged: before each line and
-- after the last what is kept holds by the ledger so far, and `dept spent` is answered by it.
pub record WereAnswered (τ : Tariff) (H : Ledger) (rates : List ℕ) (before : Rows) (trace : List (SideStep DepartmentLine)) (behind : Place) (after : Rows) : Type 0 where
  pub answers : AreAnswered (MayStep τ) (place H rates) before trace behind after None
  pub unforged : AreUnforged τ Unforged H (steps_of trace)
  pub follows : FollowLedger (MayStep τ) τ H (place H rates) before trace behind after None answers

-- WHAT AN AUDIT INFERS OF A RUN: its lines were answered so, and it left ledger K. Then each department is within its quota, a job has one department at
-- most, and each job that was printed has one. What is kept agrees and holds by K, so that the next run may start from it.
pub record InfersDepartments (τ : Tariff) (H : Ledger) (rates : List ℕ) (before : Rows) (K : Ledger) (after : Rows) (trace : List (SideStep DepartmentLine)) : Type 0 where
  pub behind : Place
  pub ledger : behind.ledger ≡ K
  pub answered : WereAnswered τ H rates before trace behind after
  pub within : IsWithinQuotas after
  pub one : IsOfOne after
  pub printed : AllAssigned after (steps_of trace)
  pub agree : Agree after
  pub holds : DepartmentsHold after K

-- so it is of a run over ledger H with this script, which wrote this report and ended so
pub record HoldThrough (τ : Tariff) (H : Ledger) (script report rates : List ℕ) (before : Rows) (end : Ending) (K : Ledger) (after : Rows) : Type 0 where
  pub left : List ℕ
  pub run : Replayed (side_lines (by_keeper kept_keeper)) (Run (status_of end)) (InfersDepartments τ (Begin ∷ H) rates before K after)
      (Some script) (Some left) (Some []) (Some report)

-- the same, and K is a history that the auditor has then
pub record HoldTo (τ : Tariff) (H : Ledger) (script report rates : List ℕ) (before : Rows) (end : Ending) (new : Audit) (after : Rows) : Type 0 where
  pub ledger : Ledger
  pub history : History τ editions ledger
  pub sees : SeesBetween new ledger
  pub hold : HoldThrough τ H script report rates before end ledger after

-- P of each history that the auditor had by which these jobs are backed
abbrev pub AtBacked : Audit → Rows → (Tariff → Ledger → Type 0) → Type 0
AtBacked old rows P = (τ : Tariff) (H : Ledger) → IsOfTexts τ → History τ editions H → SeesBetween old H → AreBacked rows H → P τ H

-- IF IT IS LAWFUL, departments held, from each history that the auditor had by which the jobs of earlier runs are backed
abbrev pub HoldIfLawful : Option (List ℕ) → Option (List ℕ) → List ℕ → Kept → Kept → Audit → Audit → SideVerdict → Type 0
HoldIfLawful script report rates v w old new verdict =
    IfSome script (λ text. IfSome report (λ told. (end : Ending) → verdict ≡ Lawful end
    → AtBacked old v.rows (λ τ H. HoldTo τ H text told rates v.rows end new w.rows)))
