-- Departments hold for what an audit infers of their runs.
use Rattle.std.proofs.Common.{◌≡◌, ◌⊎◌, inl, inr, ℕ, List, [], ◌∷◌, Option, Some, None, Bool, true, false, refl, sym, ◌∙◌, ap, subst}
use Rattle.std.specs.List.{AllByRecursion}
use Rattle.bench_base.specs.declared.{events.Event.Event, events.Reply.Reply, ledger.Entry.TheVariants.Begin}
use Rattle.bench_base.specs.declared.events.Event.TheVariants as ev
use Rattle.bench_base.specs.declared.events.Reply.TheVariants as r
use Rattle.bench_base.specs.Ledger.{Ledger, day_in}
use Rattle.bench_base.specs.Rules.{todays_rules, editions}
use Rattle.ledger_terms.specs.Editions.{Editions}
use Rattle.ledger_moves.specs.Histories.{History, begins, moves}
use Rattle.ledger_moves.specs.Moves.{Moves, plan, OtherUp, FailsToRead}
use Rattle.ledger_moves.specs.Tariffs.{Tariff}
use Rattle.line_runs.specs.Trace.{Reads}
use Rattle.line_runs.specs.declared.status.SideStatus.TheVariants.{Run}
use Rattle.line_extensions.specs.Desks.{World, world, side_lines, Does}
use Rattle.line_extensions.specs.SideTrace.{SideStep}
use Rattle.line_extensions.specs.Trace.{StepRecord}
use Rattle.line_extensions.specs.declared.{extension.Next.Next, extension.Next.TheVariants.Say}
use Rattle.line_extensions.proofs.Lines.{BrokenLast, said_of_lines}
use Rattle.node_acts.specs.Plans.{Fails}
use Rattle.node_acts.specs.RowList.{is_worn}
use Rattle.node_turns.specs.declared.turn.Turn.{Turn}
use Rattle.scan_laws.proofs.Plans.{only_print}
use Rattle.script_replay.specs.Trace.{ledger_by}
use Rattle.host_departments.specs.Answers.{CellCommit, AreAnswered}
use Rattle.host_departments.specs.ByKeeper.{by_keeper}
use Rattle.host_departments.specs.Holds.{AreBacked}
use Rattle.host_departments.specs.Rows.{Agree}
use Rattle.host_departments.specs.declared.{row.DepartmentLine.DepartmentLine, row.DepartmentRow.DepartmentRow, answer.Answer.Answer}
use Rattle.host_departments.proofs.Agreeing.{agree_after}
use Rattle.host_departments.proofs.Answering.{all_answered}
use Rattle.host_departments.proofs.Backing.{backed_after}
use Rattle.host_departments.proofs.Following.{follow_all}
use Rattle.host_departments.proofs.Holding.{departments_hold}
use Rattle.host_departments.proofs.Places.{one_department}
use Rattle.host_departments.proofs.Printing.{all_printed}
use Rattle.host_departments.proofs.Tracking.{CameOut, EndSo, Tracks, IsTurnAt, StepsLedger}
use Rattle.trace_bench.specs.Seeing.{Audit}
use Rattle.trace_runs.specs.Audits.{MayTell}
use Rattle.trace_runs.specs.Verdicts.{status_of}
use Rattle.trace_runs.specs.declared.verdict.Ending.{Ending}
use Rattle.trace_runs.proofs.Alike.{between}
use Rattle.trace_extensions.specs.DepartmentsHold.{InfersDepartments, HoldThrough, HoldIfLawful}
use Rattle.trace_extensions.specs.DepartmentsModel.{Kept, tried, kept_keeper, departments_model}
use Rattle.trace_extensions.specs.Fits.{MayDoAll, FitsSo, FitsIfLawful}
use Rattle.trace_extensions.specs.Places.{Place, place, turn_at, MayStep}
use Rattle.trace_extensions.specs.declared.papers.SideVerdict.{SideVerdict}
use Rattle.trace_extensions.proofs.Ran.{whole_end}
use Rattle.trace_extensions.proofs.Read.{MovesSo, run_read, all_moves}

-- == the model keeps quotas and jobs, and no commit of it fails ==

pub came_out : (b : Bool) (k : ℕ) (x : DepartmentRow) (meant : Answer) (old : Kept) (next : Next) (new : Kept) → is_worn old.rows k ≡ b → next ≡ Say → new ≡ tried b k x meant old
    → CameOut kept_keeper (λ v w. Unit {0}) (λ c v w. ⊥) k x meant old next new
came_out true k x meant old next new worn says is = inl (says, tt, inr (worn, ap (λ (v : Kept). v.said) is, ap (λ (v : Kept). v.rows) is))
came_out false k x meant old next new fresh says is = inl (says, tt, inl (fresh, ap (λ (v : Kept). v.said) is, ap (λ (v : Kept). v.rows) is))

abbrev kept_tracks : Tracks kept_keeper
kept_tracks = record {
  Went = λ old new. Unit {0};
  Failed = λ c old new. ⊥;
  went_to = λ old new same. tt;
  went_on = λ old mid new first second. tt;
  failed_later = λ c old mid new went failed. failed;
  rests_rows = λ old new rests. rests;
  rests_went = λ old new rests. tt;
  tried = λ k x meant old next new did. came_out (is_worn old.rows k) k x meant old next new refl did.0 did.1;
}

none_failed : (old new : Kept) (trace : List (SideStep DepartmentLine)) (failed : Option CellCommit) → EndSo kept_keeper (λ v w. Unit {0}) (λ c v w. ⊥) old new trace failed → failed ≡ None
none_failed old new trace failed (inl went) = went.2
none_failed old new trace failed (inr broke) = absurd broke.3

moves_so : MovesSo departments_model (by_keeper kept_keeper)
moves_so = record {
  own = λ own line is. (own, is);
  passes = λ v line passes. passes;
  begins = λ v w line next begun. (begun.0, begun.1, (begun.2, begun.3));
  goes = λ v w turn next goes. goes;
  sees = λ v w e turn same. same;
  texts = λ v. refl;
}

-- == steps at a ledger ==

module _ (τ : Tariff) where
  may_at : (s t : Place) (d : StepRecord) (turn : Turn) (H : Ledger) → MayStep τ s t d turn → s.ledger ≡ H → MayTell τ H s.left d
  may_at s t d turn H did at = subst (λ (L : Ledger). MayTell τ L s.left d) at did.may

  abbrev IsAt : Place → Ledger → Type 0
  IsAt s H = (s.ledger ≡ H) × History τ editions H

  pub goes_at : (s t : Place) (d : StepRecord) (turn : Turn) (H : Ledger) → MayStep τ s t d turn → IsAt s H → IsAt t (ledger_by τ H d)
  goes_at s t d turn H did at =
      let may = may_at s t d turn H did at.0 in
      (ap (λ (p : Place). p.ledger) did.new_is ∙ ap (λ (L : Ledger). ledger_by τ L d) at.0, moves d.event d.text d.reply at.1 may.unforged may.moves)

  pub told_at : (s t : Place) (d : StepRecord) (turn : Turn) (H : Ledger) → MayStep τ s t d turn → IsAt s H → IsTurnAt τ H d turn
  told_at s t d turn H did at =
      let may = may_at s t d turn H did at.0 in
      subst (λ (x : Turn). IsTurnAt τ H d x) (sym (did.turn_is ∙ ap (λ (L : Ledger). turn_at τ L d) at.0)) (record { moves = may.moves; entries = refl })

  abbrev place_ledger : StepsLedger τ (MayStep τ)
  place_ledger = record {
    At = IsAt;
    history = λ s H at. at.1;
    goes = λ s t d turn H did at u. goes_at s t d turn H did at;
    told = λ s t d turn H did at u. told_at s t d turn H did at;
  }

  -- a step that reports printing is one of `print`
  printed_by : (H : Ledger) (e : Event) (text : List ℕ) (j : ℕ) → Moves τ todays_rules H e text (r.Printed j) → e ≡ ev.Print j
  printed_by H e text j moved = by_move moved.1
    where
      by_move : ((r.Printed j ≡ (plan τ todays_rules H e text).reply)
          ⊎ (OtherUp (plan τ todays_rules H e text).reply (r.Printed j) H ⊎ (Fails (plan τ todays_rules H e text) (r.Printed j) ⊎ FailsToRead e (r.Printed j) (day_in H)))) → e ≡ ev.Print j
      by_move (inl is) = (only_print H τ e text j (sym is)).0
      by_move (inr (inl up)) = absurd (let more = up.more in cc)
      by_move (inr (inr (inl fails))) = absurd fails
      by_move (inr (inr (inr unread))) = absurd (let is = unread.reply_is in cc)

  prints : (s t : Place) (d : StepRecord) (turn : Turn) → MayStep τ s t d turn → (j : ℕ) → d.reply ≡ r.Printed j → d.event ≡ ev.Print j
  prints s t d turn did j is = printed_by s.ledger d.event d.text j (subst (λ (x : Reply). Moves τ todays_rules s.ledger d.event d.text x) is did.may.moves)

-- == a run ==

module _ (today : Editions editions) (τ : Tariff) (H : Ledger) (history : History τ editions H) (rates : List ℕ) (v : Kept) (agree : Agree v.rows) (backed : AreBacked v.rows H) where
  abbrev from : Place
  from = place (Begin ∷ H) rates

  abbrev Did : World Place Kept → List (SideStep DepartmentLine) → Type 0
  Did behind trace = Does (by_keeper kept_keeper) (MayStep τ) (world from v) behind trace

  infers : (behind : World Place Kept) (trace : List (SideStep DepartmentLine)) → AllByRecursion (Reads (side_lines (by_keeper kept_keeper))) trace → BrokenLast trace → Did behind trace
      → InfersDepartments τ (Begin ∷ H) rates v.rows behind.scene.ledger behind.desk.rows trace
  infers behind trace reads last did =
      let t = behind.scene in
      let after = behind.desk.rows in
      let all = all_answered kept_keeper kept_tracks (MayStep τ) (world from v) behind trace last did in
      let answers : AreAnswered (MayStep τ) from v.rows trace t after None =
      subst (λ (o : Option CellCommit). AreAnswered (MayStep τ) from v.rows trace t after o) (none_failed v behind.desk trace all.0 all.1) all.2 in
      let moved = all_moves τ (by_keeper kept_keeper) (world from v) behind trace (begins history) did in
      let both = backed_after τ (MayStep τ) (place_ledger τ) today H from v.rows trace t after None (refl, begins history) backed moved.unforged answers in
      let still = agree_after (MayStep τ) from v.rows trace t after None agree answers in
      record {
        behind = t;
        ledger = refl;
        answered = record {
          answers = answers;
          unforged = moved.unforged;
          follows = follow_all τ (MayStep τ) (place_ledger τ) today H from v.rows trace t after None (refl, begins history) backed answers;
        };
        within = λ d is. (still.sound.each d is).1;
        one = λ d e j is_d is_e has has'. one_department after still.sound d e j is_d is_e has has';
        printed = all_printed kept_keeper (MayStep τ) (prints τ) from v.rows trace t after None reads answers;
        agree = still;
        holds = departments_hold today τ t.ledger moved.history after (subst (λ (K : Ledger). AreBacked after K) (sym moved.ledger) both.0);
      }

  pub hold_through : (script report : List ℕ) (end : Ending) (fits : FitsSo departments_model τ (Begin ∷ H) script report rates v (status_of end))
      → HoldThrough τ H script report rates v.rows end fits.run.did.behind.scene.ledger fits.run.did.behind.desk.rows
  hold_through script report end fits =
      let run = fits.run in
      let behind = run.did.behind in
      record {
        left = fits.left;
        run = said_of_lines (by_keeper kept_keeper) (Did behind) (InfersDepartments τ (Begin ∷ H) rates v.rows behind.scene.ledger behind.desk.rows) (Run (status_of end)) (Some script) (Some fits.left)
            (Some []) (Some report) (λ trace reads at did. infers behind trace reads at.last did)
            (run_read departments_model (by_keeper kept_keeper) moves_so (MayStep τ) (status_of end) (whole_end (by_keeper kept_keeper) end) (MayDoAll departments_model τ (Begin ∷ H) rates v) (Did behind)
            (Some script) (Some fits.left) (Some []) (Some report) (world from v) behind run run.did.does (λ trace reads did. did));
      }

-- WHAT A LAWFUL VERDICT SAYS OF DEPARTMENTS
pub hold_if_lawful : (today : Editions editions) (script report : Option (List ℕ)) (rates : List ℕ) (v w : Kept) (old new : Audit) (verdict : SideVerdict) → Agree v.rows
    → FitsIfLawful departments_model script report rates v w old new verdict → HoldIfLawful script report rates v w old new verdict
hold_if_lawful today (Some script) (Some report) rates v w old new verdict agree fits = λ end lawful τ H texts history sees backed.
    let s = fits end lawful τ H texts history sees in
    let K = s.0.run.did.behind.scene.ledger in
    record {
      ledger = K;
      history = s.1.history;
      sees = between new K s.1.sees;
      hold = subst (λ (x : Kept). HoldThrough τ H script report rates v.rows end K x.rows) s.1.kept (hold_through today τ H history rates v agree backed script report end s.0);
    }
hold_if_lawful today (Some script) None rates v w old new verdict agree fits = tt
hold_if_lawful today None report rates v w old new verdict agree fits = tt
