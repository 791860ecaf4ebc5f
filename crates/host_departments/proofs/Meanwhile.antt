-- What the storage of the departments shows at each moment of a move of theirs.
use Rattle.std.proofs.Common.{◌≡◌, inl, inr, ℕ, ◌+◌, ◌-◌, List, Option, Some, None, Bool, true, false, ap}
use Rattle.std.specs.Prelude.{nat_lt}
use Rattle.bench_base.specs.declared.events.Reply.{Reply}
use Rattle.nv_model.specs.declared.nv.Nv as nv
use Rattle.node_turns.specs.Turns.{sent_in}
use Rattle.node_turns.specs.declared.turn.Turn.{Turn}
use Rattle.line_extensions.specs.Desks.{World, Does}
use Rattle.line_extensions.specs.Trace.{StepRecord}
use Rattle.line_extensions.specs.Moves.{EachMove}
use Rattle.line_extensions.specs.SideTrace.{SideStep}
use Rattle.line_extensions.specs.declared.extension.Next.{Next}
use Rattle.line_extensions.proofs.Moving.{each_move}
use Rattle.line_extensions.proofs.Stores.{Meanwhile, shown_still, shown_commit}
use Rattle.host_departments.specs.Courses.{Says, ByFailed, Tries, Assigns, AssignsBy, SpentBy, Begins, TakesBy, Hears, GoesOn}
use Rattle.host_departments.specs.Moves.{Either}
use Rattle.host_departments.specs.DepartmentsExtension.{departments_desk}
use Rattle.host_departments.specs.Payload.{decoded, spelled}
use Rattle.host_departments.specs.Rows.{quota, spent, first_cell}
use Rattle.host_departments.specs.View.{said_of, has_failed, rows_of, view_of, Rests}
use Rattle.host_departments.specs.declared.{desk.Departments.Departments, row.DepartmentLine.DepartmentLine, row.DepartmentLine.TheVariants.Quota, row.DepartmentLine.TheVariants.Assign, row.DepartmentLine.TheVariants.Spent, row.DepartmentLine.TheVariants.Print, row.DepartmentRow.DepartmentRow, row.TheConstants.CELLS, answer.Answer.Answer}
use Rattle.host_departments.specs.declared.row.DepartmentRow.TheVariants as row
use Rattle.host_departments.specs.declared.answer.Answer.TheVariants as answers
use Rattle.host_departments.proofs.Showing.{shows_now}

by_either : {P Q X : Type 0} (b : Bool) → (P → X) → (Q → X) → Either b P Q → X
by_either true f h either = f either
by_either false f h either = h either

module _ {N : Type 0} {g : nv.Ghosts N} where
  abbrev pub Shown : Departments N g → Departments N g → Type 0
  Shown old new = Meanwhile g decoded 12 CELLS (view_of old) (view_of new)

  rests_shown : (old new : Departments N g) → Rests old new → Shown old new
  rests_shown old new rests = shown_still g decoded 12 CELLS (view_of old) (view_of new) (λ works. shows_now old works) rests.storage

  same_shown : (old new : Departments N g) → new ≡ old → Shown old new
  same_shown old new same =
      rests_shown old new (record { room = ap (λ (d : Departments N g). d.room) same; storage = ap (λ (d : Departments N g). d.nv) same; failed = ap (λ (d : Departments N g). d.failed) same })

  says_shown : (answer : Answer) (old : Departments N g) (next : Next) (new : Departments N g) → Says answer old next new → Shown old new
  says_shown answer old next new says = rests_shown old new says.rests

  by_failed : (b : Bool) (k : ℕ) (x : DepartmentRow) (meant : Answer) (old : Departments N g) (next : Next) (new : Departments N g) → ByFailed b k x meant old next new → Shown old new
  by_failed true k x meant old next new did = rests_shown old new did.1
  by_failed false k x meant old next new did =
      shown_commit g decoded 12 CELLS (view_of old) (view_of new) (λ works. shows_now old works) spelled (record { cell = k; kept = x }) old.cells did.result did.commits did.failed

  tries_shown : (k : ℕ) (x : DepartmentRow) (meant : Answer) (old : Departments N g) (next : Next) (new : Departments N g) → Tries k x meant old next new → Shown old new
  tries_shown k x meant old next new did = by_failed (has_failed old) k x meant old next new did

  -- == before the message ==

  assigns_shown : (d j : ℕ) (old : Departments N g) (next : Next) (new : Departments N g) → Assigns d j old next new → Shown old new
  assigns_shown d j old next new (inl again) = says_shown (answers.Again j d) old next new again.1
  assigns_shown d j old next new (inr (not_here, inl taken)) = says_shown (answers.Taken j) old next new taken.1
  assigns_shown d j old next new (inr (not_here, inr (not_there, inl full))) = says_shown answers.Full old next new full.1
  assigns_shown d j old next new (inr (not_here, inr (not_there, inr room))) = rests_shown old new room.1.rests

  assign_shown : (o : Option ℕ) (d j : ℕ) (old : Departments N g) (next : Next) (new : Departments N g) → AssignsBy o d j old next new → Shown old new
  assign_shown None d j old next new says = says_shown (answers.Unknown d) old next new says
  assign_shown (Some q) d j old next new assigns = assigns_shown d j old next new assigns

  spent_shown : (o : Option ℕ) (d : ℕ) (old : Departments N g) (next : Next) (new : Departments N g) → SpentBy o d old next new → Shown old new
  spent_shown None d old next new says = says_shown (answers.Unknown d) old next new says
  spent_shown (Some q) d old next new says = says_shown (answers.Spent d (spent (rows_of old) d) q) old next new says

  begins_shown : (old new : Departments N g) (own : DepartmentLine) (next : Next) → Begins old own next new → Shown old new
  begins_shown old new (Quota d q) next begins =
      by_either (nat_lt q (spent (rows_of old) d)) (λ below. says_shown (answers.Below (spent (rows_of old) d)) old next new below)
      (λ tries. tries_shown (d - 1) (row.Quota q) (answers.Quota d q) old next new tries) begins
  begins_shown old new (Assign d j) next begins = assign_shown (quota (rows_of old) d) d j old next new begins
  begins_shown old new (Spent d) next begins = spent_shown (quota (rows_of old) d) d old next new begins
  begins_shown old new (Print j) next begins = says_shown (answers.Unassigned j) old next new begins.1

  -- == after it ==

  takes_shown : (d j p left : ℕ) (old : Departments N g) (next : Next) (new : Departments N g) → TakesBy d j p left old next new → Shown old new
  takes_shown d j p left old next new did =
      by_either (nat_lt left p) (λ over. says_shown (answers.OverQuota left) old next new over)
      (λ takes. tries_shown (first_cell d + takes.place) (row.Job j p) (answers.Assigned j d (left - p)) old next new takes.tries) did

  hears_shown : (d j : ℕ) (reply : Reply) (sent : Option (List ℕ)) (old : Departments N g) (next : Next) (new : Departments N g) → Hears d j reply sent old next new → Shown old new
  hears_shown d j reply sent old next new (inl did) = takes_shown d j did.0 (did.2.limit - spent (rows_of old) d) old next new did.2.takes
  hears_shown d j reply sent old next new (inr did) = says_shown (answers.Sent reply) old next new did.1

  goes_shown : (s : Answer) (reply : Reply) (sent : Option (List ℕ)) (old : Departments N g) (next : Next) (new : Departments N g) → GoesOn s reply sent old next new → Shown old new
  goes_shown (answers.Sending d j) reply sent old next new did = hears_shown d j reply sent old next new did
  goes_shown answers.Nothing reply sent old next new did = same_shown old new did.1
  goes_shown (answers.Quota d q) reply sent old next new did = same_shown old new did.1
  goes_shown (answers.Below s) reply sent old next new did = same_shown old new did.1
  goes_shown (answers.Assigned j d left) reply sent old next new did = same_shown old new did.1
  goes_shown (answers.Again j d) reply sent old next new did = same_shown old new did.1
  goes_shown (answers.Unknown d) reply sent old next new did = same_shown old new did.1
  goes_shown (answers.Taken j) reply sent old next new did = same_shown old new did.1
  goes_shown answers.Full reply sent old next new did = same_shown old new did.1
  goes_shown (answers.Sent r) reply sent old next new did = same_shown old new did.1
  goes_shown (answers.OverQuota left) reply sent old next new did = same_shown old new did.1
  goes_shown (answers.Spent d s q) reply sent old next new did = same_shown old new did.1
  goes_shown (answers.Unassigned j) reply sent old next new did = same_shown old new did.1
  goes_shown answers.Worn reply sent old next new did = same_shown old new did.1

  -- == a run ==

  pub all_shown : {B : Type 0} (Steps : B → B → StepRecord → Turn → Type 0) (old new : World B (Departments N g)) (trace : List (SideStep DepartmentLine)) (did : Does (departments_desk g) Steps old new trace)
      → EachMove (departments_desk g) Steps Shown old new trace did
  all_shown Steps old new trace did =
      each_move (departments_desk g) Steps Shown (λ s t own next begins. begins_shown s t own next begins.1) (λ s t turn next goes. goes_shown (said_of s) turn.reply (sent_in turn.entries) s next t goes)
      (λ s t e turn sees. same_shown s t sees) old new trace did
