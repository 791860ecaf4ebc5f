-- What is done for an own line, whatever keeps the quotas and jobs: before its message, and after it.
use Rattle.std.specs.Prelude.{◌≡◌, ◌⊎◌, ◌<◌, ℕ, ◌+◌, ◌-◌, List, Bool, true, false, Option, Some, None, nat_lt}
use Rattle.bench_base.specs.declared.events.Event.TheVariants as ev
use Rattle.bench_base.specs.declared.events.Reply.{Reply}
use Rattle.line_extensions.specs.declared.{extension.Next.Next, extension.Next.TheVariants.Step, extension.Next.TheVariants.Say}
use Rattle.host_departments.specs.Heard.{IsTaken}
use Rattle.host_departments.specs.Rows.{Rows, quota, spent, first_cell, Has, AnotherHas, IsAssigned, HasJobs}
use Rattle.host_departments.specs.declared.{row.DepartmentLine.DepartmentLine, row.DepartmentLine.TheVariants.Quota, row.DepartmentLine.TheVariants.Assign, row.DepartmentLine.TheVariants.Spent, row.DepartmentLine.TheVariants.Print, row.DepartmentRow.DepartmentRow, answer.Answer.Answer}
use Rattle.host_departments.specs.declared.row.DepartmentRow.TheVariants as row
use Rattle.host_departments.specs.declared.answer.Answer.TheVariants as answers

-- the one or the other
abbrev pub Either : Bool → Type 0 → Type 0 → Type 0
Either true one other = one
Either false one other = other

-- who keeps the quotas and jobs: what is seen of them, and how they keep one more
pub record Keeper (S : Type 0) : Type 1 where
  -- the quotas and jobs that are kept
  pub rows : S → Rows
  -- what was answered last, or is waited for
  pub said : S → Answer
  -- nothing but the answer is another
  pub Rests : S → S → Type 0
  -- this row was to be kept in cell k, and this to be answered after that
  pub Tries : ℕ → DepartmentRow → Answer → S → Next → S → Type 0

module _ {S : Type 0} (k : Keeper S) where
  -- it is answered so, and nothing is committed
  pub record Says (answer : Answer) (old : S) (next : Next) (new : S) : Type 0 where
    pub ends : next ≡ Say
    pub answers : k.said new ≡ answer
    pub rests : k.Rests old new

  -- the message of job j is asked for
  pub record Sends (d j : ℕ) (old : S) (next : Next) (new : S) : Type 0 where
    pub asks : next ≡ Step (ev.Send j)
    pub waits : k.said new ≡ answers.Sending d j
    pub rests : k.Rests old new

  -- for a job that no department has
  abbrev pub Free : ℕ → ℕ → S → Next → S → Type 0
  Free d j old next new = (HasJobs (k.rows old) d 64 × Says answers.Full old next new) ⊎ ((HasJobs (k.rows old) d 64 → ⊥) × Sends d j old next new)

  -- where department d has a quota
  abbrev pub Assigns : ℕ → ℕ → S → Next → S → Type 0
  Assigns d j old next new =
      (Has (k.rows old) d j × Says (answers.Again j d) old next new)
      ⊎ ((Has (k.rows old) d j → ⊥) × ((AnotherHas (k.rows old) d j × Says (answers.Taken j) old next new) ⊎
      ((AnotherHas (k.rows old) d j → ⊥) × Free d j old next new)))

  abbrev pub AssignsBy : Option ℕ → ℕ → ℕ → S → Next → S → Type 0
  AssignsBy None d j old next new = Says (answers.Unknown d) old next new
  AssignsBy (Some q) d j old next new = Assigns d j old next new

  abbrev pub SpentBy : Option ℕ → ℕ → S → Next → S → Type 0
  SpentBy None d old next new = Says (answers.Unknown d) old next new
  SpentBy (Some q) d old next new = Says (answers.Spent d (spent (k.rows old) d) q) old next new

  -- == before the message ==

  abbrev pub Begins : S → DepartmentLine → Next → S → Type 0
  Begins old (Quota d q) next new =
      Either (nat_lt q (spent (k.rows old) d)) (Says (answers.Below (spent (k.rows old) d)) old next new)
      (k.Tries (d - 1) (row.Quota q) (answers.Quota d q) old next new)
  Begins old (Assign d j) next new = AssignsBy (quota (k.rows old) d) d j old next new
  Begins old (Spent d) next new = SpentBy (quota (k.rows old) d) d old next new
  Begins old (Print j) next new = (IsAssigned (k.rows old) j → ⊥) × Says (answers.Unassigned j) old next new

  -- == after it ==

  -- the job is committed after those that the department has
  pub record Takes (d j p left : ℕ) (old : S) (next : Next) (new : S) : Type 0 where
    pub place : ℕ
    pub jobs : HasJobs (k.rows old) d place
    pub room : place < 64
    pub tries : k.Tries (first_cell d + place) (row.Job j p) (answers.Assigned j d (left - p)) old next new

  -- by what is left of the quota
  abbrev pub TakesBy : ℕ → ℕ → ℕ → ℕ → S → Next → S → Type 0
  TakesBy d j p left old next new = Either (nat_lt left p) (Says (answers.OverQuota left) old next new) (Takes d j p left old next new)

  pub record Sent (d j p : ℕ) (old : S) (next : Next) (new : S) : Type 0 where
    pub limit : ℕ
    pub is : quota (k.rows old) d ≡ Some limit
    pub takes : TakesBy d j p (limit - spent (k.rows old) d) old next new

  -- every reply but that of a message for the job is the answer
  abbrev pub Hears : ℕ → ℕ → Reply → Option (List ℕ) → S → Next → S → Type 0
  Hears d j reply sent old next new =
      ((p : ℕ) × IsTaken j reply sent p × Sent d j p old next new) ⊎ (((p : ℕ) → IsTaken j reply sent p → ⊥) × Says (answers.Sent reply) old next new)

  abbrev pub GoesOn : Answer → Reply → Option (List ℕ) → S → Next → S → Type 0
  GoesOn (answers.Sending d j) reply sent old next new = Hears d j reply sent old next new
  GoesOn _ reply sent old next new = (next ≡ Say) × (new ≡ old)
