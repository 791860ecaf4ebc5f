-- What is answered to the lines of a run, by the ledger at each of them.
use Rattle.std.specs.Prelude.{◌≡◌, ℕ, List, [], ◌∷◌, Option, Some, None}
use Rattle.bench_base.specs.Ledger.{Ledger, counted}
use Rattle.node_turns.specs.declared.turn.Turn.{Turn}
use Rattle.line_extensions.specs.Trace.{StepRecord, Skipped, Did}
use Rattle.line_extensions.specs.SideTrace.{SideStep, Plain, Own, Broken}
use Rattle.ledger_moves.specs.Tariffs.{Tariff}
use Rattle.script_replay.specs.Trace.{ledger_by, ledger_after, AreUnforged}
use Rattle.script_replay.specs.Run.{Unforged}
use Rattle.host_departments.specs.Answers.{CellCommit, AreAnswered}
use Rattle.host_departments.specs.Holds.{ordered, DepartmentsHold}
use Rattle.host_departments.specs.Rows.{Rows, quota}
use Rattle.host_departments.specs.Texts.{spent_text}
use Rattle.host_departments.specs.declared.{row.DepartmentLine.DepartmentLine, row.DepartmentLine.TheVariants.Quota, row.DepartmentLine.TheVariants.Assign, row.DepartmentLine.TheVariants.Spent, row.DepartmentLine.TheVariants.Print}

-- `dept spent` of a department with this quota is answered by the postage that was ordered for its jobs
abbrev pub TellsOrders : DepartmentLine → Rows → Ledger → List (List ℕ) → Type 0
TellsOrders (Quota d q) rows H texts = Unit {0}
TellsOrders (Assign d j) rows H texts = Unit {0}
TellsOrders (Spent d) rows H texts = (q : ℕ) → quota rows d ≡ Some q → texts ≡ spent_text d (ordered (counted H) rows d) q ∷ []
TellsOrders (Print j) rows H texts = Unit {0}

module _ {B : Type 0} (Steps : B → B → StepRecord → Turn → Type 0) (τ : Tariff) where
  -- Up to the first forged event: before each line and after the last the departments that are kept then hold by the ledger so far, and
  -- `dept spent` is answered by it.
  abbrev pub FollowLedger : Ledger → (s : B) (rows : Rows) (trace : List (SideStep DepartmentLine)) (t : B) (after : Rows) (failed : Option CellCommit)
      → AreAnswered Steps s rows trace t after failed → Type 0
  FollowLedger H s rows [] t after failed answers = DepartmentsHold rows H
  FollowLedger H s rows (Plain (Skipped line) ∷ rest) t after failed answers = FollowLedger H s rows rest t after failed answers
  FollowLedger H s rows (Plain (Did line d) ∷ rest) t after failed answers =
      DepartmentsHold rows H × (Unforged H d.event → FollowLedger (ledger_by τ H d) answers.0 rows rest t after failed answers.2)
  FollowLedger H s rows (Own line own steps texts ∷ rest) t after failed answers =
      DepartmentsHold rows H × TellsOrders own rows H texts
      × (AreUnforged τ Unforged H steps → FollowLedger (ledger_after τ H steps) answers.0 answers.1 rest t after failed answers.3)
  FollowLedger H s rows (Broken line own steps ∷ rest) t after failed answers =
      DepartmentsHold rows H × (AreUnforged τ Unforged H steps → FollowLedger (ledger_after τ H steps) answers.0 rows rest t after None answers.4)
