-- What a run is judged by, whoever keeps the quotas and jobs and however the steps are done.
use Rattle.std.proofs.Common.{◌≡◌, ◌⊎◌, ℕ, List, [], Option, Some, None, true, false}
use Rattle.bench_base.specs.Ledger.{Ledger}
use Rattle.bench_base.specs.Rules.{todays_rules, editions}
use Rattle.node_acts.specs.Plans.{after}
use Rattle.node_acts.specs.RowList.{is_worn, put}
use Rattle.node_turns.specs.Turns.{in_order}
use Rattle.node_turns.specs.declared.turn.Turn.{Turn}
use Rattle.ledger_moves.specs.Histories.{History}
use Rattle.ledger_moves.specs.Moves.{Moves, plan}
use Rattle.ledger_moves.specs.Tariffs.{Tariff}
use Rattle.line_extensions.specs.Stops.{HasBroken}
use Rattle.line_extensions.specs.Trace.{StepRecord}
use Rattle.line_extensions.specs.SideTrace.{SideStep}
use Rattle.line_extensions.specs.declared.{extension.Next.Next, extension.Next.TheVariants.Say, extension.Next.TheVariants.Stop}
use Rattle.script_replay.specs.Run.{Unforged}
use Rattle.script_replay.specs.Trace.{ledger_by}
use Rattle.host_departments.specs.Answers.{CellCommit}
use Rattle.host_departments.specs.Moves.{Keeper}
use Rattle.host_departments.specs.declared.{row.DepartmentLine.DepartmentLine, row.DepartmentRow.DepartmentRow, answer.Answer.Answer}
use Rattle.host_departments.specs.declared.answer.Answer.TheVariants as answers

-- == who keeps them ==

module _ {S : Type 0} (keep : Keeper S) (Went : S → S → Type 0) (Failed : CellCommit → S → S → Type 0) where
  -- how a commit came out: it was done, or its cell was worn; or it broke off
  abbrev pub CameOut : ℕ → DepartmentRow → Answer → S → Next → S → Type 0
  CameOut k x meant old next new =
      ((next ≡ Say) × Went old new
      × (((is_worn (keep.rows old) k ≡ false) × (keep.said new ≡ meant) × (keep.rows new ≡ put (keep.rows old) k x))
      ⊎ ((is_worn (keep.rows old) k ≡ true) × (keep.said new ≡ answers.Worn) × (keep.rows new ≡ keep.rows old))))
      ⊎ ((next ≡ Stop) × Failed (record { cell = k; kept = x }) old new × (keep.rows new ≡ keep.rows old))

  -- no commit failed at these lines, or one did at the last
  abbrev pub EndSo : S → S → List (SideStep DepartmentLine) → Option CellCommit → Type 0
  EndSo old new trace failed = (Went old new × (HasBroken trace → ⊥) × (failed ≡ None)) ⊎ (HasBroken trace × (c : CellCommit) × (failed ≡ Some c) × Failed c old new)

-- what a keeper goes through where no commit fails, and where one does
pub record Tracks {S : Type 0} (keep : Keeper S) : Type 1 where
  pub Went : S → S → Type 0
  pub Failed : CellCommit → S → S → Type 0
  pub went_to : (old new : S) → new ≡ old → Went old new
  pub went_on : (old mid new : S) → Went old mid → Went mid new → Went old new
  pub failed_later : (c : CellCommit) (old mid new : S) → Went old mid → Failed c mid new → Failed c old new
  pub rests_rows : (old new : S) → keep.Rests old new → keep.rows new ≡ keep.rows old
  pub rests_went : (old new : S) → keep.Rests old new → Went old new
  pub tried : (k : ℕ) (x : DepartmentRow) (meant : Answer) (old : S) (next : Next) (new : S) → keep.Tries k x meant old next new → CameOut keep Went Failed k x meant old next new

-- == how the steps are done ==

-- the reply may come at this ledger, and the entries are those of the reply
pub record IsTurnAt (τ : Tariff) (H : Ledger) (d : StepRecord) (turn : Turn) : Type 0 where
  pub moves : Moves τ todays_rules H d.event d.text turn.reply
  pub entries : turn.entries ≡ in_order (after (plan τ todays_rules H d.event d.text) turn.reply [])

-- a state stands for a history, and a step moves it
pub record StepsLedger {B : Type 0} (τ : Tariff) (Steps : B → B → StepRecord → Turn → Type 0) : Type 1 where
  pub At : B → Ledger → Type 0
  pub history : (s : B) (H : Ledger) → At s H → History τ editions H
  pub goes : (s t : B) (d : StepRecord) (turn : Turn) (H : Ledger) → Steps s t d turn → At s H → Unforged H d.event → At t (ledger_by τ H d)
  pub told : (s t : B) (d : StepRecord) (turn : Turn) (H : Ledger) → Steps s t d turn → At s H → Unforged H d.event → IsTurnAt τ H d turn
