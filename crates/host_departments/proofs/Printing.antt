-- Each job that is printed has a department.
use Rattle.std.proofs.Common.{◌≡◌, ◌≢◌, inl, inr, ℕ, ◌+◌, ◌-◌, List, [], ◌∷◌, ◌++◌, Option, Some, None, Bool, true, false, sym, ap, ◌∙◌, subst, arith}
use Rattle.std.specs.Prelude.{codes, nat_lt, slice_get}
use Rattle.std.proofs.lemmas.Bool.{cases_eq}
use Rattle.bench_base.specs.declared.{events.Event.Event, events.Reply.Reply}
use Rattle.bench_base.specs.declared.events.Event.TheVariants as ev
use Rattle.bench_base.specs.declared.events.Reply.TheVariants as r
use Rattle.bench_base.specs.Replies.{MayGet}
use Rattle.node_acts.specs.RowList.{put}
use Rattle.node_turns.specs.declared.turn.Turn.{Turn}
use Rattle.bench_abstraction.specs.Routing.{as_given, as_given_by, as_scanned_by}
use Rattle.bench.specs.Benches.{Nodes}
use Rattle.line_extensions.specs.Trace.{StepRecord, Skipped, Did}
use Rattle.line_extensions.specs.Events.{IsLineOf}
use Rattle.line_extensions.specs.SideTrace.{SideStep, Plain, Own, Broken, steps_of}
use Rattle.host_departments.specs.Answers.{Asked, Answered, IsTold, IsCommitted, IsTakenIn, IsSent, IsAssignTold, ByQuota, IsAnswered, CellCommit, IsCutShort, AreDone, AreAnswered}
use Rattle.host_departments.specs.Moves.{Either, Keeper}
use Rattle.host_departments.specs.DepartmentLines.{IsLine}
use Rattle.host_departments.specs.ByKeeper.{by_keeper}
use Rattle.std.specs.List.{AllByRecursion}
use Rattle.line_runs.specs.Trace.{Reads}
use Rattle.line_extensions.specs.Desks.{side_lines}
use Rattle.host_departments.specs.Ran.{AllAssigned}
use Rattle.script_replay.specs.Chains.{SceneOf}
use Rattle.script_replay.specs.Sides.{StepsBy}
use Rattle.host_departments.specs.Rows.{Rows, row_in, job_in, first_cell, quota, spent, Keeps, IsAssigned, IsDepartment}
use Rattle.host_departments.specs.Texts.{numbered, quota_text, assigned_text, again_text, spent_text}
use Rattle.host_departments.specs.declared.{row.DepartmentLine.DepartmentLine, row.DepartmentLine.TheVariants.Quota, row.DepartmentLine.TheVariants.Assign, row.DepartmentLine.TheVariants.Spent, row.DepartmentLine.TheVariants.Print, row.DepartmentRow.DepartmentRow}
use Rattle.host_departments.specs.declared.row.DepartmentRow.TheVariants as row
use Rattle.host_departments.proofs.Puts.{row_else}

-- == an event that printed ==

deliver_no_print : (k j : ℕ) (o : Option (List ℕ)) → as_given_by k o ≡ ev.Print j → ev.Deliver k ≡ ev.Print j
deliver_no_print k j None is = is
deliver_no_print k j (Some bytes) is = cc

scan_no_print : (scan k j : ℕ) (o : Option (List ℕ)) → as_scanned_by scan k o ≡ ev.Print j → ev.ScanMsg scan k ≡ ev.Print j
scan_no_print scan k j None is = is
scan_no_print scan k j (Some bytes) is = cc

print_given : (pool : List (List ℕ)) (j : ℕ) (e : Event) → as_given pool e ≡ ev.Print j → e ≡ ev.Print j
print_given pool j (ev.Deliver k) is = deliver_no_print k j (slice_get pool k) is
print_given pool j (ev.ScanMsg scan k) is = scan_no_print scan k j (slice_get pool k) is
print_given pool j _ is = is

-- a step that reports printing is one of `print`
pub prints_by : (n : Nodes) (s t : SceneOf n) (d : StepRecord) (turn : Turn) → StepsBy n s t d turn → (j : ℕ) → d.reply ≡ r.Printed j → d.event ≡ ev.Print j
prints_by n s t d turn by j is =
    let did = by.0 in
    let reply : did.turn.reply ≡ r.Printed j = sym did.told ∙ is in
    let may = did.steps.always.reply in
    let pool = s.bench.messages in
    print_given pool j d.event (subst (λ (x : Reply). MayGet (as_given pool d.event) x) reply may)

-- == what is kept is kept ==

-- each job stays where it is
abbrev Stays : Rows → Rows → Type 0
Stays rows after = (e place i : ℕ) → Keeps rows (first_cell e + place) i → Keeps after (first_cell e + place) i

stays_same : (rows after : Rows) → after ≡ rows → Stays rows after
stays_same rows after is e place i keeps = subst (λ (x : Rows). Keeps x (first_cell e + place) i) (sym is) keeps

stays_both : (rows mid after : Rows) → Stays rows mid → Stays mid after → Stays rows after
stays_both rows mid after one two e place i keeps = two e place i (one e place i keeps)

pub still_assigned : (rows after : Rows) → Stays rows after → (j : ℕ) → IsAssigned rows j → IsAssigned after j
still_assigned rows after stays j is = record {
  department = is.department;
  is = is.is;
  has = record { place = is.has.place; inside = is.has.inside; kept = stays is.department is.has.place j is.has.kept };
}

by_commit : (k : ℕ) (x : DepartmentRow) (text : List ℕ) (rows : Rows) (a : Answered) → Stays rows (put rows k x) → IsCommitted k x text rows a → Stays rows a.after
by_commit k x text rows a stays (inl worn) = stays_same rows a.after worn.2
by_commit k x text rows a stays (inr done) = stays_both rows (put rows k x) a.after stays (stays_same (put rows k x) a.after done.2)

by_quota : (d q : ℕ) (rows : Rows) → IsDepartment d → Stays rows (put rows (d - 1) (row.Quota q))
by_quota d q rows is e place i keeps =
    let differs : first_cell e + place ≢ d - 1 = λ same. omega (arith, same, is.1) in
    ap (λ (o : Option DepartmentRow). job_in o) (row_else rows (d - 1) (row.Quota q) (first_cell e + place) differs) ∙ keeps

by_job : (k : ℕ) (x : DepartmentRow) (rows : Rows) → row_in rows k ≡ None → Stays rows (put rows k x)
by_job k x rows blank e place i keeps = elim (cases_eq (first_cell e + place) k) [
  | inl is ↦
      let wrong : None ≡ Some i = sym (ap (λ (o : Option DepartmentRow). job_in o) (ap (λ (m : ℕ). row_in rows m) is ∙ blank)) ∙ keeps in
      cc
  | inr differs ↦ ap (λ (o : Option DepartmentRow). job_in o) (row_else rows k x (first_cell e + place) differs) ∙ keeps
]

quota_stays : (d q : ℕ) (rows : Rows) (a : Answered) → IsDepartment d → (b : Bool) (text : List ℕ)
    → Either b (IsTold text rows a) ((a.asked ≡ []) × IsCommitted (d - 1) (row.Quota q) (quota_text d q) rows a) → Stays rows a.after
quota_stays d q rows a is true text told = stays_same rows a.after told.rests
quota_stays d q rows a is false text did = by_commit (d - 1) (row.Quota q) (quota_text d q) rows a (by_quota d q rows is) did.1

limited_stays : (d j p left : ℕ) (rows : Rows) (a : Answered) (b : Bool) (P : Type 0) → Either b (P × (a.after ≡ rows)) (IsTakenIn d j p left rows a) → Stays rows a.after
limited_stays d j p left rows a true P did = stays_same rows a.after did.1
limited_stays d j p left rows a false P did =
    by_commit (first_cell d + did.place) (row.Job j p) (assigned_text j d (left - p)) rows a (by_job (first_cell d + did.place) (row.Job j p) rows (did.jobs.blank did.room)) did.is

sent_stays : (d j q : ℕ) (rows : Rows) (a : Answered) (sent : IsSent d j q rows a) → Stays rows a.after
sent_stays d j q rows a sent = elim sent.did [
  | inl did ↦ limited_stays d j did.0 (q - spent rows d) rows a (nat_lt (q - spent rows d) did.0) (a.texts ≡ numbered (codes "refused dept quota") (q - spent rows d) ∷ []) did.2
  | inr did ↦ stays_same rows a.after did.2
]

-- == what was asked for prints nothing ==

abbrev NonePrint : List Asked → Type 0
NonePrint [] = Unit {0}
NonePrint (x ∷ asked) = ((j : ℕ) → x.event ≡ ev.Print j → ⊥) × NonePrint asked

no_print : (asked : List Asked) → asked ≡ [] → NonePrint asked
no_print asked is = subst (λ (l : List Asked). NonePrint l) (sym is) tt

send_prints_none : (i j : ℕ) → ev.Send i ≡ ev.Print j → ⊥
send_prints_none i j is = cc

sent_prints_none : (d j q : ℕ) (rows : Rows) (a : Answered) → IsSent d j q rows a → NonePrint a.asked
sent_prints_none d j q rows a sent = subst (λ (l : List Asked). NonePrint l) (sym sent.only) (λ i is. send_prints_none j i is, tt)

-- both of an answer
abbrev IsCalm : Rows → Answered → Type 0
IsCalm rows a = Stays rows a.after × NonePrint a.asked

told_calm : (text : List ℕ) (rows : Rows) (a : Answered) → IsTold text rows a → IsCalm rows a
told_calm text rows a told = (stays_same rows a.after told.rests, no_print a.asked told.none)

quota_asks_none : (d q : ℕ) (rows : Rows) (a : Answered) (b : Bool) (text : List ℕ)
    → Either b (IsTold text rows a) ((a.asked ≡ []) × IsCommitted (d - 1) (row.Quota q) (quota_text d q) rows a) → NonePrint a.asked
quota_asks_none d q rows a true text told = no_print a.asked told.none
quota_asks_none d q rows a false text did = no_print a.asked did.0

assign_calm : (d j q : ℕ) (rows : Rows) (a : Answered) → IsAssignTold d j q rows a → IsCalm rows a
assign_calm d j q rows a (inl again) = told_calm (again_text j d) rows a again.1
assign_calm d j q rows a (inr (not_here, inl taken)) = told_calm (numbered (codes "refused dept assigned") j) rows a taken.1
assign_calm d j q rows a (inr (not_here, inr (not_there, inl full))) = told_calm (codes "refused dept full") rows a full.1
assign_calm d j q rows a (inr (not_here, inr (not_there, inr room))) = (sent_stays d j q rows a room.1, sent_prints_none d j q rows a room.1)

by_limit : (o : Option ℕ) (d : ℕ) (rows : Rows) (known : ℕ → Answered → Type 0) (a : Answered) → ((q : ℕ) → known q a → IsCalm rows a) → ByQuota o d rows known a → IsCalm rows a
by_limit None d rows known a calm told = told_calm (numbered (codes "refused dept unknown") d) rows a told
by_limit (Some q) d rows known a calm did = calm q did

answer_calm : (own : DepartmentLine) (rows : Rows) (a : Answered) → IsLine own → IsAnswered own rows a → IsCalm rows a
answer_calm (Quota d q) rows a line did =
    let text = numbered (codes "refused dept below spent") (spent rows d) in
    let b = nat_lt q (spent rows d) in
    (quota_stays d q rows a line.0 b text did, quota_asks_none d q rows a b text did)
answer_calm (Assign d j) rows a line did = by_limit (quota rows d) d rows (λ q x. IsAssignTold d j q rows x) a (λ q told. assign_calm d j q rows a told) did
answer_calm (Spent d) rows a line did =
    by_limit (quota rows d) d rows (λ q x. IsTold (spent_text d (spent rows d) q) rows x) a (λ q told. told_calm (spent_text d (spent rows d) q) rows a told) did
answer_calm (Print j) rows a line did = told_calm (numbered (codes "refused dept unassigned") j) rows a did.1

cut_prints_none : (own : DepartmentLine) (rows : Rows) (asked : List Asked) (c : CellCommit) → IsCutShort own rows asked c → NonePrint asked
cut_prints_none (Quota d q) rows asked c cut = no_print asked cut.1
cut_prints_none (Assign d j) rows asked c cut = subst (λ (l : List Asked). NonePrint l) (sym cut.3.only) (λ i is. send_prints_none j i is, tt)
cut_prints_none (Spent d) rows asked c cut = absurd cut
cut_prints_none (Print j) rows asked c cut = absurd cut

-- == a script ==

module _ {S : Type 0} (keep : Keeper S) {B : Type 0} (Steps : B → B → StepRecord → Turn → Type 0) (prints : (s t : B) (d : StepRecord) (turn : Turn) → Steps s t d turn → (j : ℕ) → d.reply ≡ r.Printed j → d.event ≡ ev.Print j) where
  all_stay : (s : B) (rows : Rows) (trace : List (SideStep DepartmentLine)) (t : B) (after : Rows) (failed : Option CellCommit) → AreAnswered Steps s rows trace t after failed → Stays rows after
  all_stay s rows [] t after failed did = stays_same rows after did.1
  all_stay s rows (Plain (Skipped line) ∷ rest) t after failed did = all_stay s rows rest t after failed did
  all_stay s rows (Plain (Did line d) ∷ rest) t after failed did = all_stay did.0 rows rest t after failed did.2
  all_stay s rows (Own line own steps texts ∷ rest) t after failed did =
      stays_both rows did.1 after (answer_calm own rows (record { asked = did.2.asked; texts = texts; after = did.1 }) did.2.line did.2.answered).0 (all_stay did.0 did.1 rest t after failed did.3)
  all_stay s rows (Broken line own steps ∷ rest) t after failed did = all_stay did.0 rows rest t after None did.4

  done_assigned : (after : Rows) (s : B) (steps : List StepRecord) (asked : List Asked) (t : B) → AreDone Steps s steps asked t → NonePrint asked → AllAssigned after steps
  done_assigned after s [] [] t done none = tt
  done_assigned after s [] (x ∷ asked) t done none = absurd done
  done_assigned after s (d ∷ steps) [] t done none = absurd done
  done_assigned after s (d ∷ steps) (x ∷ asked) t done none =
      (λ j is. absurd (none.0 j (sym done.1 ∙ prints s done.0 d x.turn done.2 j is)), done_assigned after done.0 steps asked t done.3 none.1)

  both_assigned : (after : Rows) (a b : List StepRecord) → AllAssigned after a → AllAssigned after b → AllAssigned after (a ++ b)
  both_assigned after [] b first second = second
  both_assigned after (d ∷ a) b first second = (first.0, both_assigned after a b first.1 second)

  pub all_printed : (s : B) (rows : Rows) (trace : List (SideStep DepartmentLine)) (t : B) (after : Rows) (failed : Option CellCommit) → AllByRecursion (Reads (side_lines (by_keeper keep))) trace
      → AreAnswered Steps s rows trace t after failed → AllAssigned after (steps_of trace)
  all_printed s rows [] t after failed reads did = tt
  all_printed s rows (Plain (Skipped line) ∷ rest) t after failed reads did = all_printed s rows rest t after failed reads.1 did
  all_printed s rows (Plain (Did line d) ∷ rest) t after failed reads did = (
    λ j is.
        let event : d.event ≡ ev.Print j = prints s did.0 d did.1.turn did.1.did j is in
        still_assigned rows after (all_stay did.0 rows rest t after failed did.2) j (did.1.passes (Print j) (subst (λ (e : Event). IsLineOf e line) event reads.0.is.0)),
    all_printed did.0 rows rest t after failed reads.1 did.2,
  )
  all_printed s rows (Own line own steps texts ∷ rest) t after failed reads did =
      both_assigned after steps (steps_of rest)
      (done_assigned after s steps did.2.asked did.0 did.2.done (answer_calm own rows (record { asked = did.2.asked; texts = texts; after = did.1 }) did.2.line did.2.answered).1)
      (all_printed did.0 did.1 rest t after failed reads.1 did.3)
  all_printed s rows (Broken line own steps ∷ rest) t after failed reads did =
      both_assigned after steps (steps_of rest) (done_assigned after s steps did.2.asked did.0 did.2.done (cut_prints_none own rows did.2.asked did.1 did.2.cut)) (all_printed did.0 rows rest t after None reads.1 did.4)
