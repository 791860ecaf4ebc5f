-- What becomes of one line.
use Rattle.std.proofs.Common.{◌≡◌, ◌≢◌, ◌⊎◌, ℕ, ◌<◌, ◌≤◌, List, [], ◌∷◌, ◌++◌, length, drop, Bool, false, Option, None, Result, Ok, Err, append-nil, IfOk, IfErr, IsTrue, ◌↔◌, refl, sym, ◌∙◌, ap, subst}
use Rattle.bench_base.specs.declared.{events.Event.Event, events.Reply.Reply, questions.Brought.TheVariants.Nothing}
use Rattle.bench_base.specs.declared.events.Event.TheVariants as ev
use Rattle.bench_base.specs.Events.{brought_by, IsWholeEvent}
use Rattle.bench_base.specs.Ledger.{Ledger}
use Rattle.bench_base.specs.Rules.{todays_rules, editions}
use Rattle.bench_abstraction.specs.Tariff.{IsOfTexts}
use Rattle.ledger_moves.specs.Tariffs.{Tariff}
use Rattle.ledger_moves.specs.Moves.{plan}
use Rattle.node_turns.specs.Printing.{print_of}
use Rattle.ledger_moves.specs.Histories.{History, Unforged, moves}
use Rattle.script_text.specs.Grammar.{Spells, IsSkipped}
use Rattle.script_text.specs.Texts.{text_of, IsWholeReply, told}
use Rattle.script_words.specs.declared.word.LineFault.{LineFault}
use Rattle.line_runs.specs.Ends.{lines_of, EndsAt}
use Rattle.line_runs.specs.declared.status.Status.TheVariants as status
use Rattle.line_runs.specs.Lines.{IsOneLine}
use Rattle.line_extensions.specs.Trace.{StepRecord, done}
use Rattle.line_extensions.specs.Events.{IsLineOf, IsBad}
use Rattle.line_extensions.specs.Scripts.{script_grammar}
use Rattle.script_replay.specs.Trace.{ledger_by}
use Rattle.trace_bench.specs.declared.judging.Finding.TheVariants as found
use Rattle.trace_bench.specs.Forging.{AtHistory}
use Rattle.trace_bench.specs.Judging.{AtEach, IsTold, IsUntold, text_with}
use Rattle.trace_bench.specs.Seeing.{Audit, Sees, keeps}
use Rattle.trace_runs.specs.Imprints.{IsGiven, IsDueMark, GivesSo, imprint_at}
use Rattle.trace_runs.specs.Verdicts.{Skipped, Answered, status_of, IsEvent, HasLine, has_line, has_prefix, IsAnswered}
use Rattle.trace_runs.specs.Stops.{StopsSo}
use Rattle.trace_runs.specs.Turns.{StandsAt, Turned, FellPut, TurnsSo, BeginsWith, IsOver}
use Rattle.trace_runs.specs.declared.{imprint.Given.Given, imprint.Imprint.Imprint, verdict.Ending.Ending, verdict.Verdict.Verdict, verdict.Verdict.TheVariants.Lawful, verdict.Verdict.TheVariants.Stopped, verdict.Verdict.TheVariants.Wrong, verdict.Verdict.TheVariants.Forged, verdict.Verdict.TheVariants.Unkept, verdict.Verdict.TheVariants.More, verdict.Verdict.TheVariants.Memory, verdict.Verdict.TheVariants.Unread}
use Rattle.trace_runs.specs.declared.verdict.Ending.TheVariants as ends
use Rattle.trace_runs.specs.declared.verdict.Input.TheVariants as input
use Rattle.trace_runs.proofs.Giving.{given_by}
use Rattle.trace_runs.proofs.Paired.{over_falls}

-- == what holds of the auditor that has the same ==

-- of an auditor that sees whatever the one before did
pub turned_before : (number : ℕ) (script lines report told rates : List ℕ) (old mid new : Audit) (before after : List Imprint) → ((H : Ledger) → Sees old H → Sees mid H) → (r : Result ℕ Verdict)
    → TurnsSo number script lines report told rates mid new before after r → TurnsSo number script lines report told rates old new before after r
turned_before number script lines report told rates old mid new before after sees (Ok used) t = record {
  pair = t.pair;
  is = t.is;
  script_is = t.script_is;
  report_is = t.report_is;
  so = λ τ H texts history seen. t.so τ H texts history (sees H seen);
  prints = t.prints;
}
turned_before number script lines report told rates old mid new before after sees (Err v) fell = (record { falls = fell.0.falls; so = λ τ H texts history seen. fell.0.so τ H texts history (sees H seen) }, fell.1)

-- == the line of an event ==

module _ (number : ℕ) (inside : number ≤ 1000000) (script line lines : List ℕ) (e : Event) (begins : BeginsWith script line lines e) (report rates : List ℕ) (old new : Audit) where
  is_event : IsEvent number (lines_of script) e
  is_event = record { inside = inside; line = line; more = lines_of lines; rest_is = begins.first; short = begins.short; is = begins.is }

  -- the event contains nothing forged, at each history that the auditor has
  abbrev IsUnforgedThere : Type 0
  IsUnforgedThere = AtHistory old (λ H. Unforged e H)

  -- or something, at each
  pub forged : (before : List Imprint) → AtHistory old (λ H. Unforged e H → ⊥) → FellPut number script report rates old old before before (Forged number)
  forged before brings = (record { falls = (refl, e, is_event); so = λ τ H texts history seen. (brings τ H history seen, seen) }, sym (append-nil before))

  -- or bytes, and the auditor does not keep what was sent and released
  pub unkept : (before : List Imprint) → brought_by e ≢ Nothing → (keeps old).all ≡ false → FellPut number script report rates old old before before (Unkept number)
  unkept before brings none = (record { falls = (refl, e, is_event, brings); so = λ τ H texts history seen. (none, seen) }, sym (append-nil before))

  -- the report ends before the line end of its answer
  pub stops : (v : Verdict) (before after : List Imprint) → IsOneLine report → IsUnforgedThere → StopsSo number e report rates old new before after v → FellPut number script report rates old new before after v
  stops (Stopped n) before after one unforged stop = (
    record {
      falls = (stop.0, e, stop.1, is_event, one);
      so = λ τ H texts history seen.
          let here = unforged τ H history seen in
          (here, stop.2.begun τ H texts history here seen, stop.2.left_open τ H history seen);
    },
    stop.2.prints,
  )
  stops (Wrong n due) before after one unforged stop = (
    record {
      falls = (stop.0, e, is_event, has_prefix report [] (sym (append-nil report)) one);
      so = λ τ H texts history seen. let here = unforged τ H history seen in (here, stop.1 τ H texts history here seen);
    },
    stop.2 ∙ sym (append-nil before),
  )
  stops Memory before after one unforged stop = (record { falls = (e, is_event); so = λ τ H texts history seen. tt }, stop ∙ sym (append-nil before))
  stops (Unread text n) before after one unforged stop = absurd stop
  stops (Lawful end) before after one unforged stop = absurd stop
  stops (More n end) before after one unforged stop = absurd stop
  stops (Forged n) before after one unforged stop = absurd stop
  stops (Unkept n) before after one unforged stop = absurd stop

  -- there was no memory
  pub wants : (before : List Imprint) → FellPut number script report rates old new before before Memory
  wants before = (record { falls = (e, is_event); so = λ τ H texts history seen. tt }, sym (append-nil before))

  -- the report could not be read
  pub unread : (before : List Imprint) → FellPut number script report rates old new before before (Unread input.Report number)
  unread before = (record { falls = refl; so = λ τ H texts history seen. tt }, sym (append-nil before))

  -- its line goes on after more than the prefix of any answer
  pub too_long : (v : Verdict) (prefix behind : List ℕ) (before after : List Imprint) → report ≡ prefix ++ behind → IsOneLine prefix → ((n : ℕ) → v ≡ Stopped n → ⊥) → IsUnforgedThere → StopsSo number e prefix rates old new before after v
      → FellPut number script report rates old new before after v
  too_long (Stopped n) prefix behind before after is one never unforged stop = absurd (never n refl)
  too_long (Wrong n due) prefix behind before after is one never unforged stop = (
    record {
      falls = (stop.0, e, is_event, has_prefix prefix behind is one);
      so = λ τ H texts history seen. let here = unforged τ H history seen in (here, stop.1 τ H texts history here seen);
    },
    stop.2 ∙ sym (append-nil before),
  )
  too_long Memory prefix behind before after is one never unforged stop = (record { falls = (e, is_event); so = λ τ H texts history seen. tt }, stop ∙ sym (append-nil before))
  too_long (Lawful end) prefix behind before after is one never unforged stop = absurd stop
  too_long (More n end) prefix behind before after is one never unforged stop = absurd stop
  too_long (Forged n) prefix behind before after is one never unforged stop = absurd stop
  too_long (Unkept n) prefix behind before after is one never unforged stop = absurd stop
  too_long (Unread text n) prefix behind before after is one never unforged stop = absurd stop

  module _ (answer behind : List ℕ) (has : HasLine report answer behind) where
    pub wrong : (due : Reply) (before : List Imprint) → IsUnforgedThere → AtEach old e (λ τ H. IsUntold τ H e rates answer new due)
        → FellPut number script report rates old new before before (Wrong number due)
    wrong due before unforged judged = (
      record {
        falls = (refl, e, is_event, has_line answer behind has);
        so = λ τ H texts history seen. let here = unforged τ H history seen in (here, judged τ H texts history here seen);
      },
      sym (append-nil before),
    )

    module _ (used : ℕ) (unforged : IsUnforgedThere) (judged : AtEach old e (λ τ H. (reply : Reply) × IsTold τ H e rates answer new reply × (used ≡ length (text_with τ H e rates answer reply)))) (one : (x y : Reply) → IsWholeReply x → IsWholeReply y → text_of x ≡ text_of y → told x ≡ told y)
        (due : Option (List ℕ)) (is_due : IsDueMark old e due) (given : Option Given) (gives : GivesSo e due answer given) where
      -- what may be done for the event
      may : (τ : Tariff) (H : Ledger) → IsOfTexts τ → History τ editions H → Sees old H
          → (d : StepRecord) × IsAnswered τ H rates e answer given d × StandsAt τ new (drop used rates) (ledger_by τ H d) (drop (length d.text) rates)
      may τ H texts history seen =
          let here = unforged τ H history seen in
          let w = judged τ H texts history here seen in
          let text = text_with τ H e rates answer w.0 in (
            done e text w.0 [],
            record { event = refl; text = w.1.text; may = record { unforged = here; moves = w.1.moves; whole = w.1.whole; takes = refl }; gives = given_by one τ H e rates answer new w.0 w.1 (begins.is.whole) due (λ j same. is_due j same τ H history seen) given gives },
            record { history = moves e text w.0 history here w.1.moves; sees = w.1.sees; are = ap (λ (n : ℕ). drop n rates) (sym w.2) },
          )

      pub goes_on : (before after : List Imprint) → e ≢ ev.End → after ≡ before ++ imprint_at number given → Turned number used script lines report behind rates old new before after
      goes_on before after passes put = record {
        pair = Answered line e answer given;
        is = record { one = begins.one; short = begins.short; is = (begins.is, has.one, passes) };
        script_is = begins.first;
        report_is = has.is;
        so = λ τ H texts history seen. let w = may τ H texts history seen in (w.0, w.1, w.2);
        prints = put ∙ ap (λ (l : List Imprint). before ++ l) (sym (append-nil (imprint_at number given)));
      }

      not_given : e ≡ ev.End → given ≡ None
      not_given is = gives.none (λ j same. let wrong : ev.End ≡ ev.Print j = sym is ∙ same in cc)

      pub ends_here : (v : Verdict) (before : List Imprint) → e ≡ ev.End → IsOver ends.Done number behind v → FellPut number script report rates old new before before v
      ends_here v before is over = over_falls number script report rates old new ends.Done behind v before (
        record {
          script = subst (λ (l : List (List ℕ)). EndsAt script_grammar status.Done number l) (sym begins.first) (inside, subst (λ (x : Event). Spells x line) is begins.is.spells);
          report = (answer, has);
        },
        λ τ H texts history seen.
            let w = may τ H texts history seen in
            (w.0, record { event = w.1.event ∙ is; text = w.1.text; may = w.1.may; gives = subst (λ (g : Option Given). IsGiven w.0.reply (print_of (plan τ todays_rules H w.0.event w.0.text).after) g) (not_given is) w.1.gives }, w.2.sees),
      ) over

-- == the other lines ==

-- what is known of a line that was read
pub line_of_event : (r : Result Event LineFault) (e : Event) (line : List ℕ) → IfOk r (λ x. IsWholeEvent x × Spells x line) → r ≡ Ok e → IsLineOf e line
line_of_event r e line found is =
    let w = subst (λ (x : Result Event LineFault). IfOk x (λ y. IsWholeEvent y × Spells y line)) is found in
    record { whole = w.0; spells = w.1 }

pub bad_line : (r : Result Event LineFault) (fault : LineFault) (skipped : Bool) (line : List ℕ) → IfErr r (λ f. (e : Event) → IsWholeEvent e → Spells e line → ⊥) → r ≡ Err fault
    → (IsTrue skipped ↔ IsSkipped line) → skipped ≡ false → IsBad line
bad_line r fault skipped line none is decides passes = record {
  no_event = λ e of.
      let w = subst (λ (x : Result Event LineFault). IfErr x (λ f. (e : Event) → IsWholeEvent e → Spells e line → ⊥)) is none in
      w e of.whole of.spells;
  not_skipped = λ yes. let t : IsTrue false = subst (λ (b : Bool). IsTrue b) passes (decides.1 yes) in cc t;
}

module _ (number : ℕ) (inside : number ≤ 1000000) (script report rates : List ℕ) (old : Audit) where
  -- the line is too long, or is neither that of an event nor skipped
  pub ends_bad : (line : List ℕ) (more : List (List ℕ)) (v : Verdict) (before : List Imprint) → lines_of script ≡ line ∷ more → (600 < length line) ⊎ IsBad line → IsOver (ends.Script number) number report v
      → FellPut number script report rates old old before before v
  ends_bad line more v before are bad over = over_falls number script report rates old old (ends.Script number) report v before (
    record { script = subst (λ (l : List (List ℕ)). EndsAt script_grammar (status.Script number) number l) (sym are) (inside, refl, bad); report = refl },
    λ τ H texts history seen. seen,
  ) over

  pub skips : (before : List Imprint) (line lines : List ℕ) → lines_of script ≡ line ∷ lines_of lines → IsOneLine line → length line ≤ 600 → IsSkipped line → Turned number 0 script lines report report rates old old before before
  skips before line lines first one short is = record {
    pair = Skipped line;
    is = record { one = one; short = short; is = is };
    script_is = first;
    report_is = refl;
    so = λ τ H texts history seen. record { history = history; sees = seen; are = refl };
    prints = sym (append-nil before);
  }

  -- the script could not be read
  pub script_unread : (before : List Imprint) → FellPut number script report rates old old before before (Unread input.Script number)
  script_unread before = (record { falls = refl; so = λ τ H texts history seen. tt }, sym (append-nil before))

-- the script has no line of this number
pub ends_missing : (number : ℕ) (report rates : List ℕ) (old : Audit) (end : Ending) (v : Verdict) (before : List Imprint) → EndsAt script_grammar (status_of end) number [] → IsOver end number report v
    → FellPut number [] report rates old old before before v
ends_missing number report rates old ends.Done v before at over = absurd at
ends_missing number report rates old (ends.Script n) v before at over =
    over_falls number [] report rates old old (ends.Script n) report v before (record { script = at; report = refl }, λ τ H texts history seen. seen) over
ends_missing number report rates old ends.TooLong v before at over =
    over_falls number [] report rates old old ends.TooLong report v before (record { script = at; report = refl }, λ τ H texts history seen. seen) over

-- so many lines were paired that no more is looked at
pub ends_long : (number : ℕ) (script report rates : List ℕ) (old : Audit) (v : Verdict) (before : List Imprint) → number ≡ 1000001 → IsOver ends.TooLong number report v → FellPut number script report rates old old before before v
ends_long number script report rates old v before many over =
    over_falls number script report rates old old ends.TooLong report v before (record { script = many; report = refl }, λ τ H texts history seen. seen) over
