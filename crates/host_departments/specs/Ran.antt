-- What a run with departments did.
use Rattle.std.specs.Prelude.{◌≡◌, ◌≤◌, ℕ, List, [], ◌∷◌, Option}
use Rattle.bench_base.specs.declared.events.Reply.TheVariants as r
use Rattle.bench_base.specs.declared.ledger.Entry.TheVariants.{Begin}
use Rattle.bench_base.specs.Ledger.{Ledger}
use Rattle.nv_model.specs.declared.nv.Nv as nv
use Rattle.ledger_moves.specs.Tariffs.{Tariff}
use Rattle.bench_abstraction.specs.Tariff.{IsOfTexts}
use Rattle.bench.specs.Benches.{Nodes}
use Rattle.line_runs.specs.declared.status.SideStatus.{SideStatus}
use Rattle.line_extensions.specs.Trace.{StepRecord}
use Rattle.line_extensions.specs.Desks.{World, world}
use Rattle.line_extensions.specs.Moves.{EachMove}
use Rattle.line_extensions.specs.SideTrace.{SideStep, steps_of}
use Rattle.line_extensions.specs.Stops.{LeavesStorage, ShownMeanwhile, with_commit}
use Rattle.script_replay.specs.Chains.{SceneOf, scene}
use Rattle.script_replay.specs.Trace.{ledger_after, AreUnforged}
use Rattle.script_replay.specs.Run.{Unforged}
use Rattle.script_replay.specs.Sides.{StepsBy, DidSide}
use Rattle.script_replay.specs.Throughout.{StandsFor}
use Rattle.host_departments.specs.Answers.{CellCommit, AreAnswered}
use Rattle.host_departments.specs.DepartmentsExtension.{departments_desk}
use Rattle.host_departments.specs.Follows.{FollowLedger}
use Rattle.host_departments.specs.Holds.{AreBacked, DepartmentsHold}
use Rattle.host_departments.specs.Payload.{decoded}
use Rattle.host_departments.specs.Rows.{Rows, IsDepartment, Has, IsAssigned, quota, or_zero, spent, IsSound}
use Rattle.host_departments.specs.View.{rows_of, view_of}
use Rattle.host_departments.specs.declared.{desk.Departments.Departments, row.DepartmentLine.DepartmentLine, row.TheConstants.CELLS}

-- each department has spent at most its quota: nothing, where it has none
abbrev pub IsWithinQuotas : Rows → Type 0
IsWithinQuotas rows = (d : ℕ) → IsDepartment d → spent rows d ≤ or_zero (quota rows d)

-- a job is of at most one department
abbrev pub IsOfOne : Rows → Type 0
IsOfOne rows = (d e j : ℕ) → IsDepartment d → IsDepartment e → Has rows d j → Has rows e j → d ≡ e

-- a job that was reported as printed has a department
abbrev pub PrintsAssigned : Rows → StepRecord → Type 0
PrintsAssigned rows d = (j : ℕ) → d.reply ≡ r.Printed j → IsAssigned rows j

-- so of all that was done
abbrev pub AllAssigned : Rows → List StepRecord → Type 0
AllAssigned rows [] = Unit {0}
AllAssigned rows (d ∷ steps) = PrintsAssigned rows d × AllAssigned rows steps

-- The departments and the bench did the steps. Each line about departments has its answer, by what was kept then and by what was heard of its
-- message at that place of the run. A line is left to the bench only as a `print` of an assigned job or as one that is not about departments.
-- What is kept at the end is within the quotas. Each job has one department at most, and each job that was printed has one.
-- One commit may have failed: then a later boot finds what is kept without it or with it, which agrees either way. At every moment of the run
-- each image shows what is kept then, or that with the one commit in hand.
-- The rest is by a history that the bench represented, if the jobs of earlier runs are backed by it. Up to the first forged event, what is kept
-- at each line holds by the ledger so far, and `dept spent` is answered by it. If nothing was forged, what is kept holds by the ledger that the
-- steps leave, both without the failed commit and with it.
pub record DidDepartments (n : Nodes) {N : Type 0} (own : nv.Ghosts N) (old new : World (SceneOf n) (Departments N own)) (outcome : SideStatus)
    (trace : List (SideStep DepartmentLine)) : Type 0 where
  pub side : DidSide n (departments_desk own) old new outcome trace
  pub failed : Option CellCommit
  pub answers : AreAnswered (StepsBy n) (scene side.begun old.scene.outside) (rows_of old.desk) trace side.behind.scene (rows_of new.desk) failed
  pub follows : (τ : Tariff) (L : Ledger) → IsOfTexts τ → StandsFor n τ old.scene.bench L → n.storage.tells → AreBacked (rows_of old.desk) L
      → FollowLedger (StepsBy n) τ (Begin ∷ L) (scene side.begun old.scene.outside) (rows_of old.desk) trace side.behind.scene (rows_of new.desk) failed answers
  pub storage : LeavesStorage own decoded 12 CELLS (view_of old.desk) (view_of new.desk) outcome trace failed
  pub throughout : EachMove (departments_desk own) (StepsBy n) (λ s t. ShownMeanwhile own decoded 12 CELLS (view_of s) (view_of t))
      (world (scene side.begun old.scene.outside) old.desk)
      side.behind trace side.did
  pub within : IsWithinQuotas (rows_of new.desk)
  pub one : IsOfOne (rows_of new.desk)
  pub agrees : IsSound (with_commit failed (rows_of new.desk))
  pub printed : AllAssigned (rows_of new.desk) (steps_of trace)
  pub holds : (τ : Tariff) (L : Ledger) → IsOfTexts τ → StandsFor n τ old.scene.bench L → n.storage.tells → AreBacked (rows_of old.desk) L
      → AreUnforged τ Unforged (Begin ∷ L) (steps_of trace)
      → DepartmentsHold (rows_of new.desk) (ledger_after τ (Begin ∷ L) (steps_of trace))
      × DepartmentsHold (with_commit failed (rows_of new.desk)) (ledger_after τ (Begin ∷ L) (steps_of trace))
