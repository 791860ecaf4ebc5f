-- A run with departments from nothing.
use Rattle.std.specs.Prelude.{◌≡◌, ℕ, List, [], ◌∷◌, None, false}
use Rattle.bench_base.specs.declared.ledger.Entry.TheVariants.{Begin}
use Rattle.nv_model.specs.declared.nv.Nv as nv
use Rattle.line_runs.specs.declared.status.SideStatus.{SideStatus}
use Rattle.line_extensions.specs.Desks.{world}
use Rattle.line_extensions.specs.SideTrace.{SideStep, steps_of}
use Rattle.line_extensions.specs.Stops.{with_commit}
use Rattle.ledger_moves.specs.Tariffs.{Tariff}
use Rattle.bench_abstraction.specs.Tariff.{IsOfTexts}
use Rattle.bench.specs.Benches.{Nodes}
use Rattle.script_replay.specs.Chains.{SceneOf, scene}
use Rattle.script_replay.specs.Trace.{ledger_after, AreUnforged}
use Rattle.script_replay.specs.Fresh.{DidFresh}
use Rattle.script_replay.specs.Run.{Unforged}
use Rattle.script_replay.specs.Sides.{StepsBy}
use Rattle.host_departments.specs.Follows.{FollowLedger}
use Rattle.host_departments.specs.Holds.{DepartmentsHold}
use Rattle.host_departments.specs.Ran.{DidDepartments}
use Rattle.host_departments.specs.Rows.{row_in}
use Rattle.host_departments.specs.View.{rows_of, has_failed}
use Rattle.host_departments.specs.declared.{desk.Departments.Departments, row.DepartmentLine.DepartmentLine}

-- no quota and no job is kept
abbrev pub KeepsNone : {N : Type 0} {own : nv.Ghosts N} → Departments N own → Type 0
KeepsNone desk = (k : ℕ) → row_in (rows_of desk) k ≡ None

-- Departments without a quota and a job, and a bench that represented the empty ledger, did the steps: all that is said of a run with departments by a history
-- is so.
pub record DidFreshDepartments (n : Nodes) {N : Type 0} (own : nv.Ghosts N) (old new : SceneOf n) (outcome : SideStatus)
    (trace : List (SideStep DepartmentLine)) : Type 0 where
  pub before : Departments N own
  pub after : Departments N own
  pub none : KeepsNone before
  pub works : has_failed before ≡ false
  pub did : DidDepartments n own (world old before) (world new after) outcome trace
  pub bench : DidFresh n old new did.side.ended (steps_of trace)
  pub follows : (τ : Tariff) → IsOfTexts τ
      → FollowLedger (StepsBy n) τ (Begin ∷ []) (scene did.side.begun old.outside) (rows_of before) trace did.side.behind.scene
      (rows_of after) did.failed did.answers
  pub holds : (τ : Tariff) → IsOfTexts τ → AreUnforged τ Unforged (Begin ∷ []) (steps_of trace)
      → DepartmentsHold (rows_of after) (ledger_after τ (Begin ∷ []) (steps_of trace))
      × DepartmentsHold (with_commit did.failed (rows_of after)) (ledger_after τ (Begin ∷ []) (steps_of trace))
