-- The departments move as their model does; each move of the model is determined; and the answer of a line tells whether the host failed.
use Rattle.std.proofs.Common.{◌≡◌, ◌≢◌, ◌⊎◌, inl, inr, ℕ, ◌+◌, ◌-◌, List, [], ◌∷◌, get_or, Option, Some, None, Result, Ok, Err, Bool, true, false, refl, sym, ap, ◌∙◌, subst, arith}
use Rattle.std.specs.Prelude.{nat_lt}
use Rattle.std.proofs.lemmas.Bool.{cases_order, false_from_ne_true}
use Rattle.std.proofs.lemmas.Option.{same_Some}
use Rattle.bench_base.specs.declared.{words.Node.Node, words.Node.TheVariants.Host, events.Event.Event, events.Reply.Reply, refusals.StoreFail.StoreFail, questions.Refusal.TheVariants.Verifier as OfVerifier, questions.Report.Report}
use Rattle.bench_base.specs.declared.events.Event.TheVariants as ev
use Rattle.bench_base.specs.declared.events.Reply.TheVariants as r
use Rattle.bench_base.specs.declared.questions.Report.TheVariants as report
use Rattle.bench_base.specs.declared.refusals.StoreFail.TheVariants as fail
use Rattle.bench_base.specs.Questions.{IsSentDebit}
use Rattle.bench_base.specs.Replies.{report_of}
use Rattle.ledger_moves.specs.Tariffs.{Tariff}
use Rattle.nv_model.specs.declared.nv.Nv as nv
use Rattle.nv_store.specs.declared.room.Room.{Room}
use Rattle.node_acts.specs.RowList.{is_worn, put}
use Rattle.node_turns.specs.Turns.{sent_in}
use Rattle.node_turns.specs.declared.turn.Turn.{Turn}
use Rattle.row_store.specs.Commits.{CommitsRow}
use Rattle.script_text.specs.Texts.{reply_words, text_of, IsWholeReply, told, told_as}
use Rattle.line_extensions.specs.Desks.{World, world, Asks, Asked, DidOwn}
use Rattle.line_extensions.specs.Trace.{StepRecord}
use Rattle.line_extensions.specs.declared.{extension.Next.Next, extension.Next.TheVariants.Step, extension.Next.TheVariants.Say, extension.Next.TheVariants.Stop}
use Rattle.line_extensions.specs.Wants.{IsStep}
use Rattle.line_extensions.proofs.Wanting.{no_step, step_event, ends_at}
use Rattle.host_departments.specs.Courses.{Follows, ByFailed, Tries, Says, Sends, Assigns, AssignsBy, SpentBy, Begins, Takes, TakesBy, Hears, GoesOn}
use Rattle.host_departments.specs.DepartmentsExtension.{departments_desk}
use Rattle.host_departments.specs.Kept.{rows_in}
use Rattle.host_departments.specs.Moves as moves
use Rattle.host_departments.specs.Moves.{Either}
use Rattle.host_departments.specs.Passes.{IsPrintOf}
use Rattle.host_departments.specs.Payload.{decoded, spelled}
use Rattle.host_departments.specs.Rows.{Rows, quota, spent, first_cell, HasJobs}
use Rattle.host_departments.specs.Texts.{said_texts, quota_text, assigned_text, again_text, spent_text}
use Rattle.host_departments.specs.View.{said_of, has_failed, rows_of, store_of}
use Rattle.host_departments.specs.declared.{desk.Departments.Departments, row.DepartmentLine.DepartmentLine, row.DepartmentLine.TheVariants.Quota, row.DepartmentLine.TheVariants.Assign, row.DepartmentLine.TheVariants.Spent, row.DepartmentLine.TheVariants.Print, row.DepartmentRow.DepartmentRow, answer.Answer.Answer}
use Rattle.host_departments.specs.declared.row.DepartmentRow.TheVariants as row
use Rattle.host_departments.specs.declared.answer.Answer.TheVariants as answers
use Rattle.host_departments.proofs.OneLine.{one_line_of}
use Rattle.host_departments.proofs.Places.{one_count}
use Rattle.trace_bench.specs.Prefixes.{IsFailure}
use Rattle.trace_extensions.specs.DepartmentsModel.{Kept, kept, departments_view, tried, kept_keeper, departments_model, DepartmentsFail}
use Rattle.trace_extensions.specs.Models.{by_model, IsModelOf, IsDetermined, IsSure, AsksSurely, EndsByFailure, AreFailures, TellsFailures}
use Rattle.trace_extensions.specs.Places.{Place, MayStep}
use Rattle.trace_extensions.proofs.Failures.{no_event, same_event, sent_fine, text_failures}
use Rattle.trace_extensions.proofs.Sure.{FailsAt, failure_or_none}

kept_is : (v w : Kept) → v.rows ≡ w.rows → v.said ≡ w.said → v ≡ w
kept_is v w rows said = ap (λ (l : Rows). kept l v.said) rows ∙ ap (λ (s : Answer). kept w.rows s) said

-- == the departments move as the model does, unless a commit fails ==

module _ {N : Type 0} {g : nv.Ghosts N} (old new : Departments N g) (next : Next) (goes : next ≢ Stop) where
  says_seen : (answer : Answer) → Says answer old next new → moves.Says kept_keeper answer (departments_view old) next (departments_view new)
  says_seen answer says = record { ends = says.ends; answers = says.answers; rests = ap (λ (room : Room 12). rows_in room) says.rests.room }

  abbrev TriesSeen : ℕ → DepartmentRow → Answer → Type 0
  TriesSeen k x meant = kept_keeper.Tries k x meant (departments_view old) next (departments_view new)

  came_seen : (k : ℕ) (x : DepartmentRow) (meant : Answer) (result : Result (Unit {0}) StoreFail) → CommitsRow g.tells decoded spelled 12 k x (store_of old) (store_of new) result
      → Follows result meant (said_of new) next → TriesSeen k x meant
  came_seen k x meant (Ok u) did follows =
      let fresh : is_worn (rows_of old) k ≡ false = false_from_ne_true (is_worn (rows_of old) k) (λ worn. let wrong : Ok u ≡ Err fail.Worn = did.worn.1 worn in cc) in
      (follows.1, kept_is (departments_view new) (kept (put (rows_of old) k x) meant) did.done follows.0 ∙ ap (λ (b : Bool). tried b k x meant (departments_view old)) (sym fresh))
  came_seen k x meant (Err fail.Worn) did follows =
      (follows.1, kept_is (departments_view new) (kept (rows_of old) answers.Worn) did.stays follows.0 ∙ ap (λ (b : Bool). tried b k x meant (departments_view old)) (sym (did.worn.0 refl)))
  came_seen k x meant (Err fail.Power) did follows = absurd (goes follows)
  came_seen k x meant (Err fail.Fault) did follows = absurd (goes follows)
  came_seen k x meant (Err fail.Failed) did follows = absurd (goes follows)

  by_failed : (b : Bool) (k : ℕ) (x : DepartmentRow) (meant : Answer) → ByFailed b k x meant old next new → TriesSeen k x meant
  by_failed true k x meant did = absurd (goes did.0)
  by_failed false k x meant did = came_seen k x meant did.result did.commits did.follows

  tries_seen : (k : ℕ) (x : DepartmentRow) (meant : Answer) → Tries k x meant old next new → TriesSeen k x meant
  tries_seen k x meant did = by_failed (has_failed old) k x meant did

  sends_seen : (d j : ℕ) → Sends d j old next new → moves.Sends kept_keeper d j (departments_view old) next (departments_view new)
  sends_seen d j sends = record { asks = sends.asks; waits = sends.waits; rests = ap (λ (room : Room 12). rows_in room) sends.rests.room }

  -- == before the message ==

  quota_seen : (d q : ℕ) (b : Bool) → Either b (Says (answers.Below (spent (rows_of old) d)) old next new) (Tries (d - 1) (row.Quota q) (answers.Quota d q) old next new)
      → Either b (moves.Says kept_keeper (answers.Below (spent (rows_of old) d)) (departments_view old) next (departments_view new)) (TriesSeen (d - 1) (row.Quota q) (answers.Quota d q))
  quota_seen d q true says = says_seen (answers.Below (spent (rows_of old) d)) says
  quota_seen d q false tries = tries_seen (d - 1) (row.Quota q) (answers.Quota d q) tries

  assigns_seen : (d j : ℕ) → Assigns d j old next new → moves.Assigns kept_keeper d j (departments_view old) next (departments_view new)
  assigns_seen d j (inl again) = inl (again.0, says_seen (answers.Again j d) again.1)
  assigns_seen d j (inr (not_here, inl taken)) = inr (not_here, inl (taken.0, says_seen (answers.Taken j) taken.1))
  assigns_seen d j (inr (not_here, inr (not_there, inl full))) = inr (not_here, inr (not_there, inl (full.0, says_seen answers.Full full.1)))
  assigns_seen d j (inr (not_here, inr (not_there, inr room))) = inr (not_here, inr (not_there, inr (room.0, sends_seen d j room.1)))

  assign_seen : (o : Option ℕ) (d j : ℕ) → AssignsBy o d j old next new → moves.AssignsBy kept_keeper o d j (departments_view old) next (departments_view new)
  assign_seen None d j says = says_seen (answers.Unknown d) says
  assign_seen (Some q) d j assigns = assigns_seen d j assigns

  spent_seen : (o : Option ℕ) (d : ℕ) → SpentBy o d old next new → moves.SpentBy kept_keeper o d (departments_view old) next (departments_view new)
  spent_seen None d says = says_seen (answers.Unknown d) says
  spent_seen (Some q) d says = says_seen (answers.Spent d (spent (rows_of old) d) q) says

  begins_seen : (own : DepartmentLine) → Begins old own next new → moves.Begins kept_keeper (departments_view old) own next (departments_view new)
  begins_seen (Quota d q) begins = quota_seen d q (nat_lt q (spent (rows_of old) d)) begins
  begins_seen (Assign d j) begins = assign_seen (quota (rows_of old) d) d j begins
  begins_seen (Spent d) begins = spent_seen (quota (rows_of old) d) d begins
  begins_seen (Print j) begins = (begins.0, says_seen (answers.Unassigned j) begins.1)

  -- == after it ==

  takes_seen : (d j p left : ℕ) → TakesBy d j p left old next new → moves.TakesBy kept_keeper d j p left (departments_view old) next (departments_view new)
  takes_seen d j p left did = by_test (nat_lt left p) did
    where
      by_test : (b : Bool) → Either b (Says (answers.OverQuota left) old next new) (Takes d j p left old next new)
          → Either b (moves.Says kept_keeper (answers.OverQuota left) (departments_view old) next (departments_view new)) (moves.Takes kept_keeper d j p left (departments_view old) next (departments_view new))
      by_test true says = says_seen (answers.OverQuota left) says
      by_test false takes =
          record { place = takes.place; jobs = takes.jobs; room = takes.room; tries = tries_seen (first_cell d + takes.place) (row.Job j p) (answers.Assigned j d (left - p)) takes.tries }

  hears_seen : (d j : ℕ) (reply : Reply) (sent : Option (List ℕ)) → Hears d j reply sent old next new → moves.Hears kept_keeper d j reply sent (departments_view old) next (departments_view new)
  hears_seen d j reply sent (inl did) = inl (did.0, did.1, record { limit = did.2.limit; is = did.2.is; takes = takes_seen d j did.0 (did.2.limit - spent (rows_of old) d) did.2.takes })
  hears_seen d j reply sent (inr did) = inr (did.0, says_seen (answers.Sent reply) did.1)

  goes_seen : (s : Answer) (reply : Reply) (sent : Option (List ℕ)) → GoesOn s reply sent old next new → moves.GoesOn kept_keeper s reply sent (departments_view old) next (departments_view new)
  goes_seen (answers.Sending d j) reply sent did = hears_seen d j reply sent did
  goes_seen _ reply sent did = (did.0, ap (λ (desk : Departments N g). departments_view desk) did.1)

pub departments_modelled : {N : Type 0} (g : nv.Ghosts N) → IsModelOf (departments_desk g) (λ (desk : Departments N g). departments_view desk) departments_model
departments_modelled {N} g = record {
  own = λ line. (λ own. own, λ own. own);
  passes = λ a line passes. passes;
  begins = λ a b own line next is begins goes. (own, is, begins.0, begins_seen a b next goes own begins.1);
  goes = λ a b turn next did goes. goes_seen a b next goes (said_of a) turn.reply (sent_in turn.entries) did;
  sees = λ a b e turn same. ap (λ (desk : Departments N g). departments_view desk) same;
  texts = λ a. refl;
}

-- == each move of the model is determined ==

one_place : (rows : Rows) (d n m : ℕ) → HasJobs rows d n → HasJobs rows d m → n ≡ m
one_place rows d n m jobs jobs' = elim (cases_order n m) [
  | inl is ↦ is
  | inr apart ↦ elim apart [
    | inl lt ↦ absurd (one_count rows d n m jobs jobs' lt)
    | inr gt ↦ absurd (one_count rows d m n jobs' jobs gt)
  ]
]

module _ (v w x : Kept) (next more : Next) where
  abbrev Same : Type 0
  Same = (next ≡ more) × (w ≡ x)

  one_said : (answer : Answer) → moves.Says kept_keeper answer v next w → moves.Says kept_keeper answer v more x → Same
  one_said answer a b = (a.ends ∙ sym b.ends, kept_is w x (a.rests ∙ sym b.rests) (a.answers ∙ sym b.answers))

  one_tried : (k : ℕ) (y : DepartmentRow) (meant : Answer) → kept_keeper.Tries k y meant v next w → kept_keeper.Tries k y meant v more x → Same
  one_tried k y meant a b = (a.0 ∙ sym b.0, a.1 ∙ sym b.1)

  one_sent : (d j : ℕ) → moves.Sends kept_keeper d j v next w → moves.Sends kept_keeper d j v more x → Same
  one_sent d j a b = (a.asks ∙ sym b.asks, kept_is w x (a.rests ∙ sym b.rests) (a.waits ∙ sym b.waits))

  one_free : (d j : ℕ) → moves.Free kept_keeper d j v next w → moves.Free kept_keeper d j v more x → Same
  one_free d j (inl a) (inl b) = one_said answers.Full a.1 b.1
  one_free d j (inl a) (inr b) = absurd (b.0 a.0)
  one_free d j (inr a) (inl b) = absurd (a.0 b.0)
  one_free d j (inr a) (inr b) = one_sent d j a.1 b.1

  one_assigned : (d j : ℕ) → moves.Assigns kept_keeper d j v next w → moves.Assigns kept_keeper d j v more x → Same
  one_assigned d j (inl a) (inl b) = one_said (answers.Again j d) a.1 b.1
  one_assigned d j (inl a) (inr b) = absurd (b.0 a.0)
  one_assigned d j (inr a) (inl b) = absurd (a.0 b.0)
  one_assigned d j (inr (none, inl a)) (inr (none', inl b)) = one_said (answers.Taken j) a.1 b.1
  one_assigned d j (inr (none, inl a)) (inr (none', inr b)) = absurd (b.0 a.0)
  one_assigned d j (inr (none, inr a)) (inr (none', inl b)) = absurd (a.0 b.0)
  one_assigned d j (inr (none, inr a)) (inr (none', inr b)) = one_free d j a.1 b.1

  one_assign : (o : Option ℕ) (d j : ℕ) → moves.AssignsBy kept_keeper o d j v next w → moves.AssignsBy kept_keeper o d j v more x → Same
  one_assign None d j a b = one_said (answers.Unknown d) a b
  one_assign (Some q) d j a b = one_assigned d j a b

  one_spent : (o : Option ℕ) (d : ℕ) → moves.SpentBy kept_keeper o d v next w → moves.SpentBy kept_keeper o d v more x → Same
  one_spent None d a b = one_said (answers.Unknown d) a b
  one_spent (Some q) d a b = one_said (answers.Spent d (spent v.rows d) q) a b

  one_quota : (d q : ℕ) (t : Bool) → Either t (moves.Says kept_keeper (answers.Below (spent v.rows d)) v next w) (kept_keeper.Tries (d - 1) (row.Quota q) (answers.Quota d q) v next w)
      → Either t (moves.Says kept_keeper (answers.Below (spent v.rows d)) v more x) (kept_keeper.Tries (d - 1) (row.Quota q) (answers.Quota d q) v more x) → Same
  one_quota d q true a b = one_said (answers.Below (spent v.rows d)) a b
  one_quota d q false a b = one_tried (d - 1) (row.Quota q) (answers.Quota d q) a b

  one_begun : (own : DepartmentLine) → moves.Begins kept_keeper v own next w → moves.Begins kept_keeper v own more x → Same
  one_begun (Quota d q) a b = one_quota d q (nat_lt q (spent v.rows d)) a b
  one_begun (Assign d j) a b = one_assign (quota v.rows d) d j a b
  one_begun (Spent d) a b = one_spent (quota v.rows d) d a b
  one_begun (Print j) a b = one_said (answers.Unassigned j) a.1 b.1

  one_taken : (d j p left : ℕ) (t : Bool) → Either t (moves.Says kept_keeper (answers.OverQuota left) v next w) (moves.Takes kept_keeper d j p left v next w)
      → Either t (moves.Says kept_keeper (answers.OverQuota left) v more x) (moves.Takes kept_keeper d j p left v more x) → Same
  one_taken d j p left true a b = one_said (answers.OverQuota left) a b
  one_taken d j p left false a b =
      let place : b.place ≡ a.place = one_place v.rows d b.place a.place b.jobs a.jobs in
      one_tried (first_cell d + a.place) (row.Job j p) (answers.Assigned j d (left - p)) a.tries
      (subst (λ (n : ℕ). kept_keeper.Tries (first_cell d + n) (row.Job j p) (answers.Assigned j d (left - p)) v more x) place b.tries)

  one_heard : (d j : ℕ) (reply : Reply) (sent : Option (List ℕ)) → moves.Hears kept_keeper d j reply sent v next w → moves.Hears kept_keeper d j reply sent v more x → Same
  one_heard d j reply sent (inl a) (inl b) =
      let postage : b.0 ≡ a.0 = same_Some b.0 a.0 (sym b.1.postage ∙ a.1.postage) in
      let limit : b.2.limit ≡ a.2.limit = same_Some b.2.limit a.2.limit (sym b.2.is ∙ a.2.is) in
      one_taken d j a.0 (a.2.limit - spent v.rows d) (nat_lt (a.2.limit - spent v.rows d) a.0) a.2.takes
      (subst (λ (p : ℕ). moves.TakesBy kept_keeper d j p (a.2.limit - spent v.rows d) v more x) postage
      (subst (λ (q : ℕ). moves.TakesBy kept_keeper d j b.0 (q - spent v.rows d) v more x) limit b.2.takes))
  one_heard d j reply sent (inl a) (inr b) = absurd (b.0 a.0 a.1)
  one_heard d j reply sent (inr a) (inl b) = absurd (a.0 b.0 b.1)
  one_heard d j reply sent (inr a) (inr b) = one_said (answers.Sent reply) a.1 b.1

  one_gone : (s : Answer) (reply : Reply) (sent : Option (List ℕ)) → moves.GoesOn kept_keeper s reply sent v next w → moves.GoesOn kept_keeper s reply sent v more x → Same
  one_gone (answers.Sending d j) reply sent a b = one_heard d j reply sent a b
  one_gone _ reply sent a b = (a.0 ∙ sym b.0, a.1 ∙ sym b.1)

-- what begins as an own line is not left to the bench
apart : (own : DepartmentLine) (v w : Kept) (next : Next) → moves.Begins kept_keeper v own next w → IsPrintOf v.rows own → ⊥
apart (Quota d q) v w next begins passes = passes
apart (Assign d j) v w next begins passes = passes
apart (Spent d) v w next begins passes = passes
apart (Print j) v w next begins passes = begins.0 passes

pub departments_determined : IsDetermined departments_model
departments_determined = record {
  apart = λ v w line next begins passes. apart begins.0 v w next begins.3 (passes begins.0 begins.1);
  begins = λ v w x line next more a b.
      let same : b.0 ≡ a.0 = one_line_of b.0 a.0 line b.1 a.1 in
      one_begun v w x next more a.0 a.3 (subst (λ (own : DepartmentLine). moves.Begins kept_keeper v own more x) same b.3);
  goes = λ v w x turn next more a b. one_gone v w x next more v.said turn.reply (sent_in turn.entries) a b;
  sees = λ v w x turn a b. a ∙ sym b;
}

-- == failures of the host ==

-- a line that tells no failure of the host
other_text : (line : List ℕ) → get_or line 0 0 ≢ 112 → get_or line 0 0 ≢ 102 → (number : ℕ) (reply : Reply) → DepartmentsFail number line reply → ⊥
unfolding reply_words
other_text line no_power no_fault number reply (is, inl power) = no_power (ap (λ (l : List ℕ). get_or l 0 0) is ∙ ap (λ (x : Reply). get_or (text_of x) 0 0) power)
other_text line no_power no_fault number reply (is, inr fault) = no_fault (ap (λ (l : List ℕ). get_or l 0 0) is ∙ ap (λ (x : Reply). get_or (text_of x) 0 0) fault)

two_failures : (line : List ℕ) (x y : Reply) → line ≡ text_of x → line ≡ text_of y → x ≡ r.Power Host → y ≡ r.Fault Host → ⊥
unfolding reply_words
two_failures line x y is is' power fault =
    let first : 112 ≡ 102 = sym (ap (λ (l : List ℕ). get_or l 0 0) is ∙ ap (λ (z : Reply). get_or (text_of z) 0 0) power)
    ∙ (ap (λ (l : List ℕ). get_or l 0 0) is' ∙ ap (λ (z : Reply). get_or (text_of z) 0 0) fault) in
    omega (arith, first)

pub departments_one_failure : (number : ℕ) (line : List ℕ) (x y : Reply) → DepartmentsFail number line x → DepartmentsFail number line y → x ≡ y
departments_one_failure number line x y (is, inl power) (is', inl power') = power ∙ sym power'
departments_one_failure number line x y (is, inl power) (is', inr fault) = absurd (two_failures line x y is is' power fault)
departments_one_failure number line x y (is, inr fault) (is', inl power) = absurd (two_failures line y x is' is power fault)
departments_one_failure number line x y (is, inr fault) (is', inr fault') = fault ∙ sym fault'

-- == what the answer tells ==

-- a line that is not the text of a reply
pub record IsOther (line : List ℕ) : Type 0 where
  pub no_power : get_or line 0 0 ≢ 112
  pub no_fault : get_or line 0 0 ≢ 102

-- its first byte is another
from_byte : (line : List ℕ) (c : ℕ) → get_or line 0 0 ≡ c → c ≢ 112 → c ≢ 102 → IsOther line
from_byte line c is a b = record { no_power = λ e. a (sym is ∙ e); no_fault = λ e. b (sym is ∙ e) }

-- an answer that is one line of the departments' own
abbrev pub IsPlain : Answer → Type 0
IsPlain answers.Nothing = ⊥
IsPlain (answers.Sending d j) = ⊥
IsPlain (answers.Sent reply) = ⊥
IsPlain _ = Unit {0}

abbrev pub HasOther : Answer → Type 0
HasOther s = (line : List ℕ) × (said_texts s ≡ line ∷ []) × IsOther line

plain_text : (s : Answer) → IsPlain s → HasOther s
unfolding quota_text assigned_text again_text spent_text
plain_text answers.Nothing is = absurd is
plain_text (answers.Sending d j) is = absurd is
plain_text (answers.Quota d q) is = (quota_text d q, refl, from_byte _ 113 refl (λ e. omega (arith, e)) (λ e. omega (arith, e)))
plain_text (answers.Below s) is = (_, refl, from_byte _ 114 refl (λ e. omega (arith, e)) (λ e. omega (arith, e)))
plain_text (answers.Assigned j d left) is = (assigned_text j d left, refl, from_byte _ 97 refl (λ e. omega (arith, e)) (λ e. omega (arith, e)))
plain_text (answers.Again j d) is = (again_text j d, refl, from_byte _ 97 refl (λ e. omega (arith, e)) (λ e. omega (arith, e)))
plain_text (answers.Unknown d) is = (_, refl, from_byte _ 114 refl (λ e. omega (arith, e)) (λ e. omega (arith, e)))
plain_text (answers.Taken j) is = (_, refl, from_byte _ 114 refl (λ e. omega (arith, e)) (λ e. omega (arith, e)))
plain_text answers.Full is = (_, refl, from_byte _ 114 refl (λ e. omega (arith, e)) (λ e. omega (arith, e)))
plain_text (answers.Sent reply) is = absurd is
plain_text (answers.OverQuota left) is = (_, refl, from_byte _ 114 refl (λ e. omega (arith, e)) (λ e. omega (arith, e)))
plain_text (answers.Spent d s q) is = (spent_text d s q, refl, from_byte _ 115 refl (λ e. omega (arith, e)) (λ e. omega (arith, e)))
plain_text (answers.Unassigned j) is = (_, refl, from_byte _ 114 refl (λ e. omega (arith, e)) (λ e. omega (arith, e)))
plain_text answers.Worn is = (_, refl, from_byte _ 119 refl (λ e. omega (arith, e)) (λ e. omega (arith, e)))

module _ (v w : Kept) (next : Next) where
  -- it is answered so at once
  abbrev Plainly : Type 0
  Plainly = (next ≡ Say) × HasOther w.said

  plainly : (answer : Answer) → IsPlain answer → moves.Says kept_keeper answer v next w → Plainly
  plainly answer is says = (says.ends, subst (λ (s : Answer). HasOther s) (sym says.answers) (plain_text answer is))

  by_worn : (b : Bool) (k : ℕ) (x : DepartmentRow) (meant : Answer) → IsPlain meant → HasOther (tried b k x meant v).said
  by_worn true k x meant is = plain_text answers.Worn tt
  by_worn false k x meant is = plain_text meant is

  tries_plainly : (k : ℕ) (x : DepartmentRow) (meant : Answer) → IsPlain meant → kept_keeper.Tries k x meant v next w → Plainly
  tries_plainly k x meant is tries = (tries.0, subst (λ (z : Kept). HasOther z.said) (sym tries.1) (by_worn (is_worn v.rows k) k x meant is))

  -- the message of a job is asked for
  abbrev Waits : Type 0
  Waits = (d j : ℕ) × moves.Sends kept_keeper d j v next w

  begins_plainly : (own : DepartmentLine) → moves.Begins kept_keeper v own next w → Plainly ⊎ Waits
  begins_plainly (Quota d q) begins = inl (by_test (nat_lt q (spent v.rows d)) begins)
    where
      by_test : (t : Bool) → Either t (moves.Says kept_keeper (answers.Below (spent v.rows d)) v next w) (kept_keeper.Tries (d - 1) (row.Quota q) (answers.Quota d q) v next w) → Plainly
      by_test true says = plainly (answers.Below (spent v.rows d)) tt says
      by_test false tries = tries_plainly (d - 1) (row.Quota q) (answers.Quota d q) tt tries
  begins_plainly (Assign d j) begins = by_quota (quota v.rows d) begins
    where
      assigns : moves.Assigns kept_keeper d j v next w → Plainly ⊎ Waits
      assigns (inl again) = inl (plainly (answers.Again j d) tt again.1)
      assigns (inr (not_here, inl taken)) = inl (plainly (answers.Taken j) tt taken.1)
      assigns (inr (not_here, inr (not_there, inl full))) = inl (plainly answers.Full tt full.1)
      assigns (inr (not_here, inr (not_there, inr room))) = inr (d, j, room.1)

      by_quota : (o : Option ℕ) → moves.AssignsBy kept_keeper o d j v next w → Plainly ⊎ Waits
      by_quota None says = inl (plainly (answers.Unknown d) tt says)
      by_quota (Some q) did = assigns did
  begins_plainly (Spent d) begins = inl (by_quota (quota v.rows d) begins)
    where
      by_quota : (o : Option ℕ) → moves.SpentBy kept_keeper o d v next w → Plainly
      by_quota None says = plainly (answers.Unknown d) tt says
      by_quota (Some q) says = plainly (answers.Spent d (spent v.rows d) q) tt says
  begins_plainly (Print j) begins = inl (plainly (answers.Unassigned j) tt begins.1)

  takes_plainly : (d j p left : ℕ) → moves.TakesBy kept_keeper d j p left v next w → Plainly
  takes_plainly d j p left did = by_test (nat_lt left p) did
    where
      by_test : (t : Bool) → Either t (moves.Says kept_keeper (answers.OverQuota left) v next w) (moves.Takes kept_keeper d j p left v next w) → Plainly
      by_test true says = plainly (answers.OverQuota left) tt says
      by_test false takes = tries_plainly (first_cell d + takes.place) (row.Job j p) (answers.Assigned j d (left - p)) tt takes.tries

  -- after the message: the job was sent, and this is a line of the departments' own; or the line is the text of the reply
  abbrev Answers : Reply → Type 0
  Answers reply = (next ≡ Say) × ((IsSentDebit reply × HasOther w.said) ⊎ (said_texts w.said ≡ text_of reply ∷ []))

  hears_plainly : (d j : ℕ) (reply : Reply) (sent : Option (List ℕ)) → moves.Hears kept_keeper d j reply sent v next w → Answers reply
  hears_plainly d j reply sent (inl did) = let out = takes_plainly d j did.0 (did.2.limit - spent v.rows d) did.2.takes in (out.0, inl (did.1.is_sent, out.1))
  hears_plainly d j reply sent (inr did) = (did.1.ends, inr (ap (λ (s : Answer). said_texts s) did.1.answers))

-- == what they ask for ==

module _ (v w : Kept) (next : Next) where
  -- after the message it is answered
  goes_ends : (s : Answer) (reply : Reply) (sent : Option (List ℕ)) → moves.GoesOn kept_keeper s reply sent v next w → next ≡ Say
  goes_ends (answers.Sending d j) reply sent goes = (hears_plainly v w next d j reply sent goes).0
  goes_ends _ reply sent goes = goes.0

  -- a message that failed keeps nothing
  heard_rests : (d j : ℕ) (reply : Reply) (sent : Option (List ℕ)) (n : Node) → IsFailure reply n → moves.Hears kept_keeper d j reply sent v next w → w.rows ≡ v.rows
  heard_rests d j reply sent n fails (inl did) = absurd (sent_fine reply did.1.is_sent n fails)
  heard_rests d j reply sent n fails (inr did) = did.1.rests

  failed_rests : (s : Answer) (reply : Reply) (sent : Option (List ℕ)) (n : Node) → IsFailure reply n → moves.GoesOn kept_keeper s reply sent v next w → w.rows ≡ v.rows
  failed_rests (answers.Sending d j) reply sent n fails goes = heard_rests d j reply sent n fails goes
  failed_rests _ reply sent n fails goes = ap (λ (z : Kept). z.rows) goes.1

-- they ask for messages of jobs alone
pub departments_asks : AsksSurely departments_model
departments_asks = record {
  first = λ v w line e begins. elim (begins_plainly v w (Step e) begins.0 begins.3) [
    | inl plain ↦ absurd (no_event e plain.0)
    | inr waits ↦ inr (inl (waits.1, same_event e (ev.Send waits.1) waits.2.asks))
  ];
  then = λ v w turn e goes. absurd (no_event e (goes_ends v w (Step e) v.said turn.reply (sent_in turn.entries) goes));
}

-- a failure ends its line, and the quotas and jobs are as they were before it
pub departments_ends : EndsByFailure departments_model
departments_ends = λ v w turn next n fails goes.
    (goes_ends v w next v.said turn.reply (sent_in turn.entries) goes, failed_rests v w next v.said turn.reply (sent_in turn.entries) n fails goes)

-- what a line tells are failures of the host
pub departments_failures : AreFailures DepartmentsFail
departments_failures = text_failures Host

-- == failures by their texts ==

-- a reply that is told as a failure of the host is one
told_power : (p : Report) (x : Reply) (m : Node) → told_as p x ≡ r.Power m → x ≡ r.Power m
told_power (report.Refusal (OfVerifier why)) x m is = absurd (cc is)
told_power _ x m is = is

told_fault : (p : Report) (x : Reply) (m : Node) → told_as p x ≡ r.Fault m → x ≡ r.Fault m
told_fault (report.Refusal (OfVerifier why)) x m is = absurd (cc is)
told_fault _ x m is = is

module _ (one : (x y : Reply) → IsWholeReply x → IsWholeReply y → text_of x ≡ text_of y → told x ≡ told y) where
  -- a reply with the text of a failure of the host is that failure
  same_failure : (x reply : Reply) → IsWholeReply x → text_of x ≡ text_of reply → IsFailure reply Host → IsFailure x Host
  same_failure x reply whole same (inl power) =
      inl (told_power (report_of x) x Host (one x (r.Power Host) whole tt (same ∙ ap (λ (z : Reply). text_of z) power)))
  same_failure x reply whole same (inr fault) =
      inr (told_fault (report_of x) x Host (one x (r.Fault Host) whole tt (same ∙ ap (λ (z : Reply). text_of z) fault)))

  module _ (τ : Tariff) (old new : World Place Kept) where
    -- it was answered at once
    at_once : (first : Next) (desk : Kept) (steps : List StepRecord) → first ≡ Say → HasOther desk.said → Asks (by_model departments_model) (MayStep τ) (world old.scene desk) new first steps Say
        → TellsFailures DepartmentsFail steps (said_texts new.desk.said)
    at_once first desk steps say other asks =
        let end = ends_at (by_model departments_model) (MayStep τ) (world old.scene desk) new first steps Say asks (inl say) in
        subst (λ (l : List StepRecord). TellsFailures DepartmentsFail l (said_texts new.desk.said)) (sym end.0) (record {
          first = other.0;
          more = [];
          are = ap (λ (z : World Place Kept). said_texts z.desk.said) end.2 ∙ other.1;
          told = tt;
        })

    -- the message of a job was asked for
    after_message : (d j : ℕ) (first : Next) (desk : Kept) (steps : List StepRecord) → moves.Sends kept_keeper d j old.desk first desk
        → Asks (by_model departments_model) (MayStep τ) (world old.scene desk) new first steps Say → TellsFailures DepartmentsFail steps (said_texts new.desk.said)
    after_message d j first desk [] sends asks = absurd (no_step first (inl (sym asks.0)) (subst (λ (n : Next). IsStep n) (sym sends.asks) tt))
    after_message d j first desk (s ∷ rest) sends asks =
        subst (λ (l : List StepRecord). TellsFailures DepartmentsFail (s ∷ l) (said_texts new.desk.said)) (sym end.0) (by out.1)
      where
        mid : World Place Kept
        mid = asks.0

        more : Next
        more = asks.1

        asked : Asked (by_model departments_model) (MayStep τ) (world old.scene desk) mid first s more
        asked = asks.2

        event : s.event ≡ ev.Send j
        event = sym (ap (λ (n : Next). step_event s.event n) (sym sends.asks ∙ asked.asks))

        sure : IsSure s.event
        sure = inr (inl (j, event))

        reply_is : asked.turn.reply ≡ s.reply
        reply_is = ap (λ (t : Turn). t.reply) asked.did.turn_is

        out : Answers desk mid.desk more asked.turn.reply
        out = hears_plainly desk mid.desk more d j asked.turn.reply (sent_in asked.turn.entries)
            (subst (λ (t : Answer). moves.GoesOn kept_keeper t asked.turn.reply (sent_in asked.turn.entries) desk more mid.desk) sends.waits asked.goes)

        end : (rest ≡ []) × (Say ≡ more) × (new ≡ mid)
        end = ends_at (by_model departments_model) (MayStep τ) mid new more rest Say asks.3 (inl out.0)

        texts : said_texts new.desk.said ≡ said_texts mid.desk.said
        texts = ap (λ (z : World Place Kept). said_texts z.desk.said) end.2

        by_host : FailsAt s.event s.reply → IsFailure s.reply Host
        by_host fails = subst (λ (e : Event). FailsAt e s.reply) event fails

        by : (IsSentDebit asked.turn.reply × HasOther mid.desk.said) ⊎ (said_texts mid.desk.said ≡ text_of asked.turn.reply ∷ []) → TellsFailures DepartmentsFail (s ∷ []) (said_texts new.desk.said)
        by (inl (sent, other)) = record {
          first = other.0;
          more = [];
          are = texts ∙ other.1;
          told = (
            record {
              sure = sure;
              told = elim (failure_or_none τ old.scene.ledger old.scene.left s sure asked.did.may) [
                | inl fails ↦ absurd (sent_fine s.reply (subst (λ (x : Reply). IsSentDebit x) reply_is sent) Host (by_host fails))
                | inr none ↦ inr (λ reply fails. other_text other.0 other.2.no_power other.2.no_fault 1 reply fails, none)
              ];
            },
            tt,
          );
        }
        by (inr text) = record {
          first = text_of asked.turn.reply;
          more = [];
          are = texts ∙ text;
          told = (
            record {
              sure = sure;
              told = elim (failure_or_none τ old.scene.ledger old.scene.left s sure asked.did.may) [
                | inl fails ↦ inl (ap (λ (x : Reply). text_of x) reply_is, by_host fails)
                | inr none ↦
                    inr (λ reply fails. none Host (same_failure s.reply reply asked.did.may.whole (sym (ap (λ (x : Reply). text_of x) reply_is) ∙ fails.0) fails.1), none)
              ];
            },
            tt,
          );
        }

pub departments_tells : (one : (x y : Reply) → IsWholeReply x → IsWholeReply y → text_of x ≡ text_of y → told x ≡ told y) (τ : Tariff) (old new : World Place Kept) (line : List ℕ) (steps : List StepRecord)
    → DidOwn (by_model departments_model) (MayStep τ) old new line steps Say → TellsFailures DepartmentsFail steps (departments_model.texts new.desk)
departments_tells one τ old new line steps did = elim (begins_plainly old.desk did.desk did.first did.begins.0 did.begins.3) [
  | inl plain ↦ at_once one τ old new did.first did.desk steps plain.0 plain.1 did.asks
  | inr waits ↦ after_message one τ old new waits.0 waits.1 did.first did.desk steps waits.2 did.asks
]
