-- What is waited for.
use Rattle.std.specs.Prelude.{◌≡◌, ℕ, ◌+◌, IsSome, is_some, false}
use Rattle.std.proofs.Props.{props}
use Rattle.host_departments.specs.Rows.{Rows, row_in, quota, first_cell, Keeps, IsDepartment}
use Rattle.host_departments.specs.declared.answer.Answer.{Answer}
use Rattle.host_departments.specs.declared.answer.Answer.TheVariants as answers

-- department d, which has a quota and room, may take job j, which no cell keeps
abbrev pub MayTake : Rows → ℕ → ℕ → Type 0
MayTake rows d j = IsDepartment d × IsSome (quota rows d) × (is_some (row_in rows (first_cell d + 63)) ≡ false) × ((k : ℕ) → Keeps rows k j → ⊥)

-- where the message of a job is awaited, it may
abbrev pub IsWaiting : Rows → Answer → Type 0
IsWaiting rows (answers.Sending d j) = MayTake rows d j
IsWaiting rows _ = Unit {0}

-- == laws ==

-- that it may has one proof at most
pub waiting_prop : (rows : Rows) (s : Answer) → IsProp (IsWaiting rows s)
waiting_prop rows answers.Nothing = hlevel props
waiting_prop rows (answers.Sending d j) = hlevel props
waiting_prop rows (answers.Quota d q) = hlevel props
waiting_prop rows (answers.Below s) = hlevel props
waiting_prop rows (answers.Assigned j d left) = hlevel props
waiting_prop rows (answers.Again j d) = hlevel props
waiting_prop rows (answers.Unknown d) = hlevel props
waiting_prop rows (answers.Taken j) = hlevel props
waiting_prop rows answers.Full = hlevel props
waiting_prop rows (answers.Sent reply) = hlevel props
waiting_prop rows (answers.OverQuota left) = hlevel props
waiting_prop rows (answers.Spent d s q) = hlevel props
waiting_prop rows (answers.Unassigned j) = hlevel props
waiting_prop rows answers.Worn = hlevel props
