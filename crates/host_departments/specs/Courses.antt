-- What is done for an own line: the moves, over a storage.
use Rattle.std.specs.Prelude.{◌≡◌, ℕ, List, Bool, true, false, Option, Result, Ok, Err}
use Rattle.bench_base.specs.declared.{events.Reply.Reply, refusals.StoreFail.StoreFail}
use Rattle.bench_base.specs.declared.refusals.StoreFail.TheVariants as fail
use Rattle.nv_model.specs.declared.nv.Nv.{Ghosts}
use Rattle.nv_store.specs.Fails.{ends_failed}
use Rattle.line_extensions.specs.declared.{extension.Next.Next, extension.Next.TheVariants.Say, extension.Next.TheVariants.Stop}
use Rattle.row_store.specs.Commits.{CommitsRow}
use Rattle.host_departments.specs.Moves as moves
use Rattle.host_departments.specs.Moves.{Keeper}
use Rattle.host_departments.specs.Payload.{decoded, spelled}
use Rattle.host_departments.specs.View.{said_of, has_failed, rows_of, store_of, Rests}
use Rattle.host_departments.specs.declared.{row.DepartmentLine.DepartmentLine, row.DepartmentRow.DepartmentRow, desk.Departments.Departments, answer.Answer.Answer}
use Rattle.host_departments.specs.declared.answer.Answer.TheVariants as answers

-- what follows a commit by how it ended: after Ok what was meant to, at a worn cell that answer, and otherwise the end of the run
abbrev pub Follows : Result (Unit {0}) StoreFail → Answer → Answer → Next → Type 0
Follows (Ok done) meant now next = (now ≡ meant) × (next ≡ Say)
Follows (Err fail.Worn) meant now next = (now ≡ answers.Worn) × (next ≡ Say)
Follows (Err fail.Power) meant now next = next ≡ Stop
Follows (Err fail.Fault) meant now next = next ≡ Stop
Follows (Err fail.Failed) meant now next = next ≡ Stop

module _ {N : Type 0} {g : Ghosts N} where
  -- a commit of this row to cell k
  pub record Commits (k : ℕ) (x : DepartmentRow) (meant : Answer) (old : Departments N g) (next : Next) (new : Departments N g) : Type 0 where
    pub result : Result (Unit {0}) StoreFail
    pub commits : CommitsRow g.tells decoded spelled 12 k x (store_of old) (store_of new) result
    pub failed : has_failed new ≡ ends_failed result
    pub follows : Follows result meant (said_of new) next

  -- it was tried; where one had failed before, the run ends
  abbrev pub ByFailed : Bool → ℕ → DepartmentRow → Answer → Departments N g → Next → Departments N g → Type 0
  ByFailed true k x meant old next new = (next ≡ Stop) × Rests old new
  ByFailed false k x meant old next new = Commits k x meant old next new

  abbrev pub Tries : ℕ → DepartmentRow → Answer → Departments N g → Next → Departments N g → Type 0
  Tries k x meant old next new = ByFailed (has_failed old) k x meant old next new

  -- they keep their rows in a storage
  abbrev pub stored : Keeper (Departments N g)
  stored = record {
    rows = λ desk. rows_of desk;
    said = λ desk. said_of desk;
    Rests = λ old new. Rests old new;
    Tries = λ k x meant old next new. Tries k x meant old next new;
  }

  abbrev pub Says : Answer → Departments N g → Next → Departments N g → Type 0
  Says answer old next new = moves.Says stored answer old next new

  abbrev pub Sends : ℕ → ℕ → Departments N g → Next → Departments N g → Type 0
  Sends d j old next new = moves.Sends stored d j old next new

  abbrev pub Free : ℕ → ℕ → Departments N g → Next → Departments N g → Type 0
  Free d j old next new = moves.Free stored d j old next new

  abbrev pub Assigns : ℕ → ℕ → Departments N g → Next → Departments N g → Type 0
  Assigns d j old next new = moves.Assigns stored d j old next new

  abbrev pub AssignsBy : Option ℕ → ℕ → ℕ → Departments N g → Next → Departments N g → Type 0
  AssignsBy limit d j old next new = moves.AssignsBy stored limit d j old next new

  abbrev pub SpentBy : Option ℕ → ℕ → Departments N g → Next → Departments N g → Type 0
  SpentBy limit d old next new = moves.SpentBy stored limit d old next new

  abbrev pub Begins : Departments N g → DepartmentLine → Next → Departments N g → Type 0
  Begins old own next new = moves.Begins stored old own next new

  abbrev pub Takes : ℕ → ℕ → ℕ → ℕ → Departments N g → Next → Departments N g → Type 0
  Takes d j p left old next new = moves.Takes stored d j p left old next new

  abbrev pub TakesBy : ℕ → ℕ → ℕ → ℕ → Departments N g → Next → Departments N g → Type 0
  TakesBy d j p left old next new = moves.TakesBy stored d j p left old next new

  abbrev pub Sent : ℕ → ℕ → ℕ → Departments N g → Next → Departments N g → Type 0
  Sent d j p old next new = moves.Sent stored d j p old next new

  abbrev pub Hears : ℕ → ℕ → Reply → Option (List ℕ) → Departments N g → Next → Departments N g → Type 0
  Hears d j reply sent old next new = moves.Hears stored d j reply sent old next new

  abbrev pub GoesOn : Answer → Reply → Option (List ℕ) → Departments N g → Next → Departments N g → Type 0
  GoesOn said reply sent old next new = moves.GoesOn stored said reply sent old next new
