-- Jobs stay backed by the ledger, through each line of a run.
use Rattle.std.proofs.Common.{◌≡◌, inl, inr, ℕ, ◌+◌, ◌-◌, List, [], ◌∷◌, ◌++◌, Option, Some, None, Bool, true, false, refl, sym, ap, ap₂, ◌∙◌, subst}
use Rattle.std.specs.Prelude.{codes, nat_lt, Result}
use Rattle.bench_base.specs.declared.{events.Event.Event, events.Reply.Reply, ledger.Entry.Entry, ledger.Entry.TheVariants.Begin, refusals.Unread.Unread}
use Rattle.bench_base.specs.declared.events.Event.TheVariants as ev
use Rattle.bench_base.specs.declared.events.Reply.TheVariants as r
use Rattle.bench_base.specs.Ledger.{Ledger, counted}
use Rattle.bench_base.specs.Replies.{class_of}
use Rattle.bench_base.specs.Rules.{todays_rules, editions}
use Rattle.node_acts.specs.Plans.{after}
use Rattle.node_acts.specs.RowList.{put}
use Rattle.node_turns.specs.Turns.{in_order, sent_in}
use Rattle.node_turns.specs.declared.turn.Turn.{Turn}
use Rattle.psd_wire.specs.declared.message.Message.{Message}
use Rattle.ledger_terms.specs.Editions.{Editions}
use Rattle.ledger_moves.specs.Moves as moves
use Rattle.ledger_moves.specs.Moves.{plan}
use Rattle.ledger_moves.specs.Tariffs.{Tariff}
use Rattle.send_laws.specs.Orders.{ordered_postage, IsSentFor}
use Rattle.send_laws.proofs.Kept.{ordered_entry, ordered_kept}
use Rattle.send_laws.proofs.Sending.{sent_for}
use Rattle.line_extensions.specs.Trace.{StepRecord, Skipped, Did}
use Rattle.line_extensions.specs.SideTrace.{SideStep, Plain, Own, Broken, steps_of}
use Rattle.line_extensions.specs.Stops.{with_commit}
use Rattle.script_replay.specs.Trace.{ledger_by, ledger_after, AreUnforged}
use Rattle.script_replay.specs.Run.{Unforged}
use Rattle.host_departments.specs.Answers.{Asked, Answered, IsTold, IsCommitted, IsTakenIn, IsSent, IsAssignTold, ByQuota, IsAnswered, CellCommit, IsCutShort, AreDone, AreAnswered}
use Rattle.host_departments.specs.Moves.{Either}
use Rattle.host_departments.specs.Heard.{IsTaken, debit_postage, postage_sent}
use Rattle.host_departments.specs.Holds.{AreBacked}
use Rattle.host_departments.specs.Rows.{Rows, quota, spent, first_cell}
use Rattle.host_departments.specs.Texts.{numbered, quota_text, assigned_text, spent_text}
use Rattle.host_departments.specs.declared.{row.DepartmentLine.DepartmentLine, row.DepartmentLine.TheVariants.Quota, row.DepartmentLine.TheVariants.Assign, row.DepartmentLine.TheVariants.Spent, row.DepartmentLine.TheVariants.Print, row.DepartmentRow.DepartmentRow}
use Rattle.host_departments.specs.declared.row.DepartmentRow.TheVariants as row
use Rattle.host_departments.proofs.Puts.{put_row}
use Rattle.host_departments.proofs.Tracking.{StepsLedger}

-- == a commit ==

no_job : (q j p : ℕ) → row.Quota q ≡ row.Job j p → ⊥
no_job q j p is = cc

job_is : (j p i q : ℕ) → row.Job j p ≡ row.Job i q → j ≡ i
job_is j p i q is = cc

postage_is : (j p i q : ℕ) → row.Job j p ≡ row.Job i q → p ≡ q
postage_is j p i q is = cc

-- the row is no job, or its Ordered counts with its postage
abbrev IsOrdered : DepartmentRow → Ledger → Type 0
IsOrdered x H = (j p : ℕ) → x ≡ row.Job j p → ordered_postage j (counted H) ≡ Some p

backed_put : (rows : Rows) (H : Ledger) (k : ℕ) (x : DepartmentRow) → AreBacked rows H → IsOrdered x H → AreBacked (put rows k x) H
backed_put rows H k x b new l j p is = elim (put_row rows k x (row.Job j p) l is) [
  | inl same ↦ new j p same
  | inr was ↦ b l j p was
]

quota_ordered : (q : ℕ) (H : Ledger) → IsOrdered (row.Quota q) H
quota_ordered q H j p is = absurd (no_job q j p is)

job_ordered : (j p : ℕ) (H : Ledger) → ordered_postage j (counted H) ≡ Some p → IsOrdered (row.Job j p) H
job_ordered j p H is i q same =
    subst (λ (n : ℕ). ordered_postage i (counted H) ≡ Some n) (postage_is j p i q same) (subst (λ (n : ℕ). ordered_postage n (counted H) ≡ Some p) (job_is j p i q same) is)

-- with the commit that failed, if one did
abbrev IsOrderedCommit : Option CellCommit → Ledger → Type 0
IsOrderedCommit None H = Unit {0}
IsOrderedCommit (Some c) H = IsOrdered c.kept H

pub with_failed : (rows : Rows) (H : Ledger) (failed : Option CellCommit) → AreBacked rows H → IsOrderedCommit failed H → AreBacked (with_commit failed rows) H
with_failed rows H None b is = b
with_failed rows H (Some c) b is = backed_put rows H c.cell c.kept b is

pub begun : (rows : Rows) (L : Ledger) → AreBacked rows L → AreBacked rows (Begin ∷ L)
begun rows L b k j p is = ordered_entry j p Begin L (b k j p is)

module _ (τ : Tariff) where
  -- == an order that counts goes on counting ==

  pub kept_by : (H : Ledger) (d : StepRecord) (j a : ℕ) → ordered_postage j (counted H) ≡ Some a → ordered_postage j (counted (ledger_by τ H d)) ≡ Some a
  kept_by H d j a is = ordered_kept j a (plan τ todays_rules H d.event d.text) (class_of d.reply) H is

  kept_after : (H : Ledger) (steps : List StepRecord) (j a : ℕ) → ordered_postage j (counted H) ≡ Some a → ordered_postage j (counted (ledger_after τ H steps)) ≡ Some a
  kept_after H [] j a is = is
  kept_after H (d ∷ steps) j a is = kept_after (ledger_by τ H d) steps j a (kept_by H d j a is)

  -- == lists of steps ==

  first_unforged : (H : Ledger) (a b : List StepRecord) → AreUnforged τ Unforged H (a ++ b) → AreUnforged τ Unforged H a
  first_unforged H [] b u = tt
  first_unforged H (d ∷ a) b u = (u.0, first_unforged (ledger_by τ H d) a b u.1)

  rest_unforged : (H : Ledger) (a b : List StepRecord) → AreUnforged τ Unforged H (a ++ b) → AreUnforged τ Unforged (ledger_after τ H a) b
  rest_unforged H [] b u = u
  rest_unforged H (d ∷ a) b u = rest_unforged (ledger_by τ H d) a b u.1

  after_both : (H : Ledger) (a b : List StepRecord) → ledger_after τ (ledger_after τ H a) b ≡ ledger_after τ H (a ++ b)
  after_both H [] b = refl
  after_both H (d ∷ a) b = after_both (ledger_by τ H d) a b

  module _ {B : Type 0} (Steps : B → B → StepRecord → Turn → Type 0) (ledger : StepsLedger τ Steps) (today : Editions editions) where
    -- where the steps were done, the state stands for what they leave
    pub at_after : (s : B) (steps : List StepRecord) (asked : List Asked) (t : B) (H : Ledger) → AreDone Steps s steps asked t → ledger.At s H → AreUnforged τ Unforged H steps
        → ledger.At t (ledger_after τ H steps)
    at_after s [] [] t H done at u = subst (λ (x : B). ledger.At x H) (sym done) at
    at_after s [] (x ∷ asked) t H done at u = absurd done
    at_after s (d ∷ steps) [] t H done at u = absurd done
    at_after s (d ∷ steps) (x ∷ asked) t H done at u =
        at_after done.0 steps asked t (ledger_by τ H d) done.3 (ledger.goes s done.0 d x.turn H done.2 at u.0) u.1

    -- == the message of a job ==

    -- its postage is that of the job's Ordered
    heard_order : (s t : B) (d : StepRecord) (H : Ledger) (turn : Turn) (j p : ℕ) → ledger.At s H → Steps s t d turn → d.event ≡ ev.Send j → IsTaken j turn.reply (sent_in turn.entries) p
        → ordered_postage j (counted H) ≡ Some p
    heard_order s t d H turn j p at did event taken =
        let told = ledger.told s t d turn H did at (subst (λ (e : Event). Unforged H e) (sym event) tt) in
        let i = taken.is_sent.0 in
        let k = taken.is_sent.1 in
        let reply : turn.reply ≡ r.SentDebit i k = taken.is_sent.2 in
        let moved : moves.Moves τ todays_rules H (ev.Send j) d.text (r.SentDebit i k) =
        subst (λ (a : Reply). moves.Moves τ todays_rules H (ev.Send j) d.text a) reply (subst (λ (e : Event). moves.Moves τ todays_rules H e d.text turn.reply) event told.moves) in
        let sent : IsSentFor j (after (plan τ todays_rules H (ev.Send j) d.text) (r.SentDebit i k) []) H = sent_for τ _ _ H today (ledger.history s H at) j i k d.text moved in
        let entries : turn.entries ≡ in_order (after (plan τ todays_rules H (ev.Send j) d.text) (r.SentDebit i k) []) =
        told.entries ∙ ap₂ (λ (e : Event) (a : Reply). in_order (after (plan τ todays_rules H e d.text) a [])) event reply in
        let note : sent_in turn.entries ≡ Some sent.bytes = ap (λ (l : List (Option Entry)). sent_in l) (entries ∙ ap (λ (l : Ledger). in_order l) sent.only) in
        let postage : Some sent.debit.postage ≡ Some p =
        sym (ap (λ (x : Result Message Unread). debit_postage x) sent.reads) ∙ (ap (λ (o : Option (List ℕ)). postage_sent o) (sym note) ∙ taken.postage) in
        sent.postage ∙ postage

    -- and stays so
    sent_order : (s : B) (steps : List StepRecord) (t : B) (H : Ledger) (turn : Turn) (j p : ℕ) → ledger.At s H → AreDone Steps s steps (record { event = ev.Send j; turn = turn } ∷ []) t
        → IsTaken j turn.reply (sent_in turn.entries) p → ordered_postage j (counted (ledger_after τ H steps)) ≡ Some p
    sent_order s [] t H turn j p at done taken = absurd done
    sent_order s (d ∷ rest) t H turn j p at done taken = kept_after (ledger_by τ H d) rest j p (kept_by H d j p (heard_order s done.0 d H turn j p at done.2 done.1 taken))

    -- == an own line ==

    module _ (s t : B) (rows : Rows) (H : Ledger) (steps : List StepRecord) (stands : ledger.At s H) (b : AreBacked rows H) where
      abbrev Now : Ledger
      Now = ledger_after τ H steps

      pub still : AreBacked rows Now
      still k j p is = kept_after H steps j p (b k j p is)

      module _ (a : Answered) (done : AreDone Steps s steps a.asked t) where
        same : a.after ≡ rows → AreBacked a.after Now
        same is = subst (λ (x : Rows). AreBacked x Now) (sym is) still

        now_sent : (turn : Turn) (j p : ℕ) → a.asked ≡ record { event = ev.Send j; turn = turn } ∷ [] → IsTaken j turn.reply (sent_in turn.entries) p → ordered_postage j (counted Now) ≡ Some p
        now_sent turn j p only taken = sent_order s steps t H turn j p stands (subst (λ (l : List Asked). AreDone Steps s steps l t) only done) taken

        committed : (k : ℕ) (x : DepartmentRow) (text : List ℕ) → IsOrdered x Now → IsCommitted k x text rows a → AreBacked a.after Now
        committed k x text new (inl worn) = same worn.2
        committed k x text new (inr put_now) = subst (λ (y : Rows). AreBacked y Now) (sym put_now.2) (backed_put rows Now k x still new)

        quota_set : (d q : ℕ) (test : Bool) (text : List ℕ) → Either test (IsTold text rows a) ((a.asked ≡ []) × IsCommitted (d - 1) (row.Quota q) (quota_text d q) rows a) → AreBacked a.after Now
        quota_set d q true text told = same told.rests
        quota_set d q false text did = committed (d - 1) (row.Quota q) (quota_text d q) (quota_ordered q Now) did.1

        limited : (d j p left : ℕ) (test : Bool) (P : Type 0) → ordered_postage j (counted Now) ≡ Some p → Either test (P × (a.after ≡ rows)) (IsTakenIn d j p left rows a) → AreBacked a.after Now
        limited d j p left true P is did = same did.1
        limited d j p left false P is did = committed (first_cell d + did.place) (row.Job j p) (assigned_text j d (left - p)) (job_ordered j p Now is) did.is

        sent : (d j q : ℕ) → IsSent d j q rows a → AreBacked a.after Now
        sent d j q is = elim is.did [
          | inl did ↦
              limited d j did.0 (q - spent rows d) (nat_lt (q - spent rows d) did.0) (a.texts ≡ numbered (codes "refused dept quota") (q - spent rows d) ∷ []) (now_sent is.turn j did.0 is.only did.1) did.2
          | inr did ↦ same did.2
        ]

        assigned : (d j q : ℕ) → IsAssignTold d j q rows a → AreBacked a.after Now
        assigned d j q (inl again) = same again.1.rests
        assigned d j q (inr (not_here, inl taken)) = same taken.1.rests
        assigned d j q (inr (not_here, inr (not_there, inl full))) = same full.1.rests
        assigned d j q (inr (not_here, inr (not_there, inr room))) = sent d j q room.1

        by_quota : (d : ℕ) (o : Option ℕ) (known : ℕ → Answered → Type 0) → ((q : ℕ) → known q a → AreBacked a.after Now) → ByQuota o d rows known a → AreBacked a.after Now
        by_quota d None known more told = same told.rests
        by_quota d (Some q) known more did = more q did

        pub answered : (own : DepartmentLine) → IsAnswered own rows a → AreBacked a.after Now
        answered (Quota d q) did = quota_set d q (nat_lt q (spent rows d)) (numbered (codes "refused dept below spent") (spent rows d)) did
        answered (Assign d j) did = by_quota d (quota rows d) (λ q x. IsAssignTold d j q rows x) (λ q told. assigned d j q told) did
        answered (Spent d) did = by_quota d (quota rows d) (λ q x. IsTold (spent_text d (spent rows d) q) rows x) (λ q told. same told.rests) did
        answered (Print j) did = same did.1.rests

        -- the commit that failed
        cut : (own : DepartmentLine) (c : CellCommit) → IsCutShort own rows a.asked c → IsOrdered c.kept Now
        cut (Quota d q) c is = subst (λ (x : DepartmentRow). IsOrdered x Now) (sym (ap (λ (y : CellCommit). y.kept) is.2)) (quota_ordered q Now)
        cut (Assign d j) c is =
            subst (λ (x : DepartmentRow). IsOrdered x Now) (sym is.3.kept) (job_ordered j is.3.postage Now (now_sent is.3.turn j is.3.postage is.3.only is.3.taken))
        cut (Spent d) c is = absurd is
        cut (Print j) c is = absurd is

    -- == all lines ==

    abbrev AreAllBacked : Rows → Option CellCommit → Ledger → Type 0
    AreAllBacked rows failed H = AreBacked rows H × IsOrderedCommit failed H

    backed_all : (s : B) (rows : Rows) (H : Ledger) (trace : List (SideStep DepartmentLine)) (t : B) (then : Rows) (failed : Option CellCommit) → ledger.At s H → AreBacked rows H
        → AreUnforged τ Unforged H (steps_of trace) → AreAnswered Steps s rows trace t then failed → AreAllBacked then failed (ledger_after τ H (steps_of trace))
    backed_all s rows H [] t then failed stands b u did =
        (subst (λ (x : Rows). AreBacked x H) (sym did.1) b, subst (λ (o : Option CellCommit). IsOrderedCommit o H) (sym did.2) tt)
    backed_all s rows H (Plain (Skipped line) ∷ rest) t then failed stands b u did = backed_all s rows H rest t then failed stands b u did
    backed_all s rows H (Plain (Did line d) ∷ rest) t then failed stands b u did =
        backed_all did.0 rows (ledger_by τ H d) rest t then failed (ledger.goes s did.0 d did.1.turn H did.1.did stands u.0) (λ k j p is. kept_by H d j p (b k j p is)) u.1 did.2
    backed_all s rows H (Own line own steps said ∷ rest) t then failed stands b u did =
        let told = did.2 in
        let stands_now = at_after s steps told.asked did.0 H told.done stands (first_unforged H steps (steps_of rest) u) in
        subst (λ (K : Ledger). AreAllBacked then failed K) (after_both H steps (steps_of rest))
        (backed_all did.0 did.1 (ledger_after τ H steps) rest t then failed stands_now
        (answered s did.0 rows H steps stands b (record { asked = told.asked; texts = said; after = did.1 }) told.done own told.answered) (rest_unforged H steps (steps_of rest) u) did.3)
    backed_all s rows H (Broken line own steps ∷ rest) t then failed stands b u did =
        let cut_off = did.2 in
        let stands_now = at_after s steps cut_off.asked did.0 H cut_off.done stands (first_unforged H steps (steps_of rest) u) in
        let more = backed_all did.0 rows (ledger_after τ H steps) rest t then None stands_now (still s did.0 rows H steps stands b) (rest_unforged H steps (steps_of rest) u) did.4 in
        let ordered = cut s did.0 rows H steps stands b (record { asked = cut_off.asked; texts = []; after = rows }) cut_off.done own did.1 cut_off.cut in
        let later : IsOrdered did.1.kept (ledger_after τ (ledger_after τ H steps) (steps_of rest)) = λ j p is. kept_after (ledger_after τ H steps) (steps_of rest) j p (ordered j p is) in
        subst (λ (K : Ledger). AreAllBacked then failed K) (after_both H steps (steps_of rest))
        (more.0, subst (λ (o : Option CellCommit). IsOrderedCommit o (ledger_after τ (ledger_after τ H steps) (steps_of rest))) (sym did.3) later)

    -- WHAT WAS BACKED BEFORE A RUN IS BACKED AFTER IT, also with the commit that failed
    pub backed_after : (L : Ledger) (s : B) (rows : Rows) (trace : List (SideStep DepartmentLine)) (t : B) (then : Rows) (failed : Option CellCommit) → ledger.At s (Begin ∷ L) → AreBacked rows L
        → AreUnforged τ Unforged (Begin ∷ L) (steps_of trace) → AreAnswered Steps s rows trace t then failed
        → AreBacked then (ledger_after τ (Begin ∷ L) (steps_of trace)) × AreBacked (with_commit failed then) (ledger_after τ (Begin ∷ L) (steps_of trace))
    backed_after L s rows trace t then failed stands b u did =
        let both = backed_all s rows (Begin ∷ L) trace t then failed stands (begun rows L b) u did in
        (both.0, with_failed then (ledger_after τ (Begin ∷ L) (steps_of trace)) failed both.0 both.1)
