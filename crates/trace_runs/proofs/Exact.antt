-- An audit is exact: what fits goes no further than it paired, and where something fits to the end, it says so.
use Rattle.std.proofs.Common.{◌≡◌, inl, inr, ℕ, ◌+◌, ◌<◌, ◌≤◌, List, [], ◌∷◌, ◌++◌, length, map, flat_map, refl, sym, ◌∙◌, ap, subst, arith, append-nil, append_assoc}
use Rattle.std.proofs.lemmas.List.{length-append}
use Rattle.bench_base.specs.declared.{events.Event.Event, events.Reply.Reply, ledger.Entry.TheVariants.Begin}
use Rattle.bench_base.specs.declared.events.Event.TheVariants as ev
use Rattle.bench_base.specs.Ledger.{Ledger, day_in}
use Rattle.bench_base.specs.Replies.{class_of}
use Rattle.bench_base.specs.Rules.{todays_rules}
use Rattle.ledger_moves.specs.Tariffs.{Tariff}
use Rattle.ledger_moves.specs.Moves.{Moves}
use Rattle.ledger_moves.specs.Histories.{Unforged}
use Rattle.script_text.specs.Grammar.{Spells, IsSkipped}
use Rattle.script_text.specs.Texts.{text_of, IsWholeReply, told}
use Rattle.script_text.proofs.EachEvent.{one_event_of, no_event_skipped}
use Rattle.line_runs.specs.Trace.{Reads, report_of}
use Rattle.line_runs.specs.Ends.{EndsAt, IsPassed}
use Rattle.line_runs.specs.Lines.{IsOneLine, ended}
use Rattle.line_runs.specs.declared.status.Status.TheVariants as status
use Rattle.line_extensions.specs.Trace as traces
use Rattle.line_extensions.specs.Trace.{StepRecord, TraceStep, Did, GoesOn, done_in, line_of}
use Rattle.line_extensions.specs.Scripts.{script_lines, script_grammar}
use Rattle.line_extensions.specs.ScriptLaws.{is_grammar}
use Rattle.script_replay.specs.Trace.{ledger_after}
use Rattle.trace_bench.specs.Judging.{IsUntold, MayGet, taken_by}
use Rattle.trace_bench.specs.Seeing.{Audit}
use Rattle.trace_bench.specs.Stopping.{IsPrefixOf}
use Rattle.trace_runs.specs.Audits.{MayTell}
use Rattle.trace_runs.specs.Verdicts.{Pair, Skipped, Answered, IsPair, line_in, text_for, status_of, IsEvent, HasLine, HasSome, has_line, has_prefix, EndsSo, FallsAt, IsWrong, IsSo, TellsSo, Says, imprints_from}
use Rattle.trace_runs.specs.Prints.{ArePrinted}
use Rattle.trace_runs.specs.Fitting.{FitsPrinted, AreTold, rates_after, FitsFirst, FitsToEnd, FitsStopped, EndsTold, BeginsTold, IsCutShort, IsLawful, IsStoppedAt, IsExact}
use Rattle.trace_runs.specs.declared.{verdict.Ending.Ending, verdict.Ending.TheVariants.Done as Ended, verdict.Ending.TheVariants.Script, verdict.Ending.TheVariants.TooLong, verdict.Verdict.Verdict, verdict.Verdict.TheVariants.Lawful, verdict.Verdict.TheVariants.Stopped, verdict.Verdict.TheVariants.Wrong, verdict.Verdict.TheVariants.Forged, verdict.Verdict.TheVariants.Unkept, verdict.Verdict.TheVariants.More, verdict.Verdict.TheVariants.Memory, verdict.Verdict.TheVariants.Unread}
use Rattle.trace_runs.proofs.Fitted.{Made, made, lawful_ends, stopped_begins}
use Rattle.trace_runs.proofs.GivenBack.{given_back}
use Rattle.trace_runs.proofs.MadePrinted.{made_printed}
use Rattle.trace_runs.proofs.Comparing.{prefix_one, Compared, longer, shorter, compare, one_split}

-- == lines after which a run goes on ==

not_end : (end : Ending) (number : ℕ) (line : List ℕ) (rest : List (List ℕ)) → number ≤ 1000000 → IsPassed script_grammar line → EndsAt script_grammar (status_of end) number (line ∷ rest) → ⊥
not_end Ended number line rest inside passed at = is_grammar.end_not_passing line at.1 passed.1
not_end (Script n) number line rest inside passed at = elim at.2 [
  | inl long ↦ omega (arith, long, passed.0)
  | inr bad ↦ is_grammar.passing_not_bad line passed.1 bad
]
not_end TooLong number line rest inside passed at = omega (arith, inside, at)

pair_passes : (p : Pair) → IsPair p → IsPassed script_grammar (line_in p)
pair_passes (Skipped line) is = (is.short, inl is.is)
pair_passes (Answered line e answer given) is = (is.short, inr (e, is.is.0, is.is.2))

trace_step_passes : (d : TraceStep) → Reads script_lines d → GoesOn d → IsPassed script_grammar (traces.line_in d)
trace_step_passes (traces.Skipped line) reads goes = (reads.short, inl reads.is)
trace_step_passes (Did line d) reads goes = (reads.short, inr (d.event, reads.is.0, goes))

-- the line of an event ends a run where it is that of `end` alone
pub event_ends : (end : Ending) (number : ℕ) (rest : List (List ℕ)) (e : Event) → IsEvent number rest e → EndsAt script_grammar (status_of end) number rest → (end ≡ Ended) × (e ≡ ev.End)
event_ends end number rest e is at = by end (subst (λ (l : List (List ℕ)). EndsAt script_grammar (status_of end) number l) is.rest_is at)
  where
    by : (x : Ending) → EndsAt script_grammar (status_of x) number (is.line ∷ is.more) → (x ≡ Ended) × (e ≡ ev.End)
    by Ended l = (refl, one_event_of e ev.End is.line is.is.whole tt is.is.spells l.1)
    by (Script n) l = elim l.2 [
      | inl long ↦ absurd (omega (arith, long, is.short))
      | inr bad ↦ absurd (bad.no_event e is.is)
    ]
    by TooLong l = absurd (omega (arith, is.inside, l))

-- an event that is next isn't skipped
skips_none : (number : ℕ) (rest : List (List ℕ)) (e : Event) → IsEvent number rest e → (line : List ℕ) (lines : List (List ℕ)) → rest ≡ line ∷ lines → IsSkipped line → ⊥
skips_none number rest e next line lines is skipped =
    let same : next.line ≡ line = cc (next.rest_is, is) in
    no_event_skipped e next.line next.is.spells (subst (λ (z : List ℕ). IsSkipped z) (sym same) skipped)

-- the next event is one
pub one_next : (number number' : ℕ) (rest : List (List ℕ)) (e f : Event) → IsEvent number rest e → IsEvent number' rest f → e ≡ f
one_next number number' rest e f next other =
    let same : next.line ≡ other.line = cc (next.rest_is, other.rest_is) in
    one_event_of e f other.line next.is.whole other.is.whole (subst (λ (z : List ℕ). Spells e z) same next.is.spells) other.is.spells

-- a line end stands among them
not_one : (a x : List ℕ) → IsOneLine (ended a ++ x) → ⊥
not_one [] x one = one.0 refl
not_one (c ∷ a) x one = not_one a x one.1

-- bytes without a line end are a prefix of the line, if a line and what follows it begin with them
prefix_of_line : (text x prefix behind : List ℕ) → IsOneLine prefix → ended text ++ x ≡ prefix ++ behind → IsPrefixOf prefix text
prefix_of_line text x [] behind one is = (text, refl)
prefix_of_line [] x (c ∷ prefix) behind one is = let same : c ≡ 10 = cc is in absurd (one.0 same)
prefix_of_line (t ∷ text) x (c ∷ prefix) behind one is =
    let head : t ≡ c = cc is in
    let w = prefix_of_line text x prefix behind one.1 (cc is) in
    (w.0, ap (λ (n : ℕ). n ∷ text) head ∙ ap (λ (l : List ℕ). c ∷ l) w.1)

module _ (one : (x y : Reply) → IsWholeReply x → IsWholeReply y → text_of x ≡ text_of y → told x ≡ told y) (line : (r : Reply) → IsWholeReply r → IsOneLine (text_of r)) where
  -- what the event may get, by the step that is judged
  may_get : (τ : Tariff) (K : Ledger) (l told_is : List ℕ) (e : Event) (d : StepRecord) → d.event ≡ e → MayTell τ K l d → MayGet τ K e l told_is d.reply
  may_get τ K l told_is e d event may =
      let moves : Moves τ todays_rules K d.event (taken_by d.event (day_in K) (class_of d.reply) l) d.reply = subst (λ (t : List ℕ). Moves τ todays_rules K d.event t d.reply) may.takes may.moves in
      subst (λ (f : Event). Moves τ todays_rules K f (taken_by f (day_in K) (class_of d.reply) l) d.reply) event moves

  -- no possible reply has a line that was judged to be that of no reply
  untold_not : (τ : Tariff) (K : Ledger) (l : List ℕ) (e : Event) (answer behind told_is : List ℕ) (new : Audit) (due : Reply) (d : StepRecord) (x : List ℕ) → HasLine told_is answer behind
      → IsUntold τ K e l answer new due → d.event ≡ e → MayTell τ K l d → told_is ≡ line_of d.reply ++ x → ⊥
  untold_not τ K l e answer behind told_is new due d x has untold event may is =
      let split = one_split (text_of d.reply) answer x behind (line d.reply may.whole) has.one (sym is ∙ has.is) in
      untold.none d.reply (may_get τ K l answer e d event may) split.0

  -- no possible reply has the line, if the report has a line of no reply
  pub wrong_not : (τ : Tariff) (K : Ledger) (l : List ℕ) (e : Event) (told_is : List ℕ) (new : Audit) (due : Reply) (d : StepRecord) (x : List ℕ) (has : HasSome told_is)
      → IsWrong τ K l new e due told_is has → d.event ≡ e → MayTell τ K l d → told_is ≡ line_of d.reply ++ x → ⊥
  wrong_not τ K l e told_is new due d x (has_line answer behind has) wrong event may is = untold_not τ K l e answer behind told_is new due d x has wrong event may is
  wrong_not τ K l e told_is new due d x (has_prefix prefix behind begins one) wrong event may is =
      wrong.none d.reply (record { moves = may_get τ K l prefix e d event may; whole = may.whole; begins = prefix_of_line (text_of d.reply) x prefix behind one (sym is ∙ begins) })

  -- nothing goes on after the line at which the verdict falls
  goes_past : (v : Verdict) (number : ℕ) (rest : List (List ℕ)) (told_is : List ℕ) (falls : FallsAt number rest told_is v) (τ : Tariff) (K : Ledger) (l : List ℕ) (new : Audit) → IsSo τ K l new number rest told_is v falls
      → number ≤ 1000000 → (d : TraceStep) (more : List TraceStep) (lines : List (List ℕ)) (x : List ℕ) → Reads script_lines d → GoesOn d → rest ≡ traces.line_in d ∷ lines → told_is ≡ traces.text_for d ++ x
      → AreTold τ K l (done_in (d ∷ more)) → IsCutShort v
  goes_past (Lawful end) number rest told_is falls τ K l new so inside d more lines x reads goes rest_is text are =
      absurd (not_end end number (traces.line_in d) lines inside (trace_step_passes d reads goes) (subst (λ (r : List (List ℕ)). EndsAt script_grammar (status_of end) number r) rest_is falls.script))
  goes_past (More n end) number rest told_is falls τ K l new so inside d more lines x reads goes rest_is text are =
      absurd (not_end end number (traces.line_in d) lines inside (trace_step_passes d reads goes) (subst (λ (r : List (List ℕ)). EndsAt script_grammar (status_of end) number r) rest_is falls.2.script))
  goes_past (Stopped n) number rest told_is falls τ K l new so inside (traces.Skipped y) more lines x reads goes rest_is text are =
      absurd (skips_none number rest falls.1 falls.3 y lines rest_is reads.is)
  goes_past (Stopped n) number rest told_is falls τ K l new so inside (Did y d) more lines x reads goes rest_is text are =
      absurd (not_one (text_of d.reply) x (subst (λ (z : List ℕ). IsOneLine z) text falls.4))
  goes_past (Wrong n due) number rest told_is falls τ K l new so inside (traces.Skipped y) more lines x reads goes rest_is text are =
      absurd (skips_none number rest falls.1 falls.2 y lines rest_is reads.is)
  goes_past (Wrong n due) number rest told_is falls τ K l new so inside (Did y d) more lines x reads goes rest_is text are =
      let same : falls.2.line ≡ y = cc (falls.2.rest_is, rest_is) in
      let event : d.event ≡ falls.1 = one_event_of d.event falls.1 y reads.is.0.whole falls.2.is.whole reads.is.0.spells (subst (λ (z : List ℕ). Spells falls.1 z) same falls.2.is.spells) in
      absurd (wrong_not τ K l falls.1 told_is new due d x falls.3 so.1 event are.0 text)
  goes_past (Forged n) number rest told_is falls τ K l new so inside (traces.Skipped y) more lines x reads goes rest_is text are =
      absurd (skips_none number rest falls.1 falls.2 y lines rest_is reads.is)
  goes_past (Forged n) number rest told_is falls τ K l new so inside (Did y d) more lines x reads goes rest_is text are =
      let same : falls.2.line ≡ y = cc (falls.2.rest_is, rest_is) in
      let event : d.event ≡ falls.1 = one_event_of d.event falls.1 y reads.is.0.whole falls.2.is.whole reads.is.0.spells (subst (λ (z : List ℕ). Spells falls.1 z) same falls.2.is.spells) in
      absurd (so.0 (subst (λ (f : Event). Unforged f K) event are.0.unforged))
  goes_past (Unkept n) number rest told_is falls τ K l new so inside d more lines x reads goes rest_is text are = tt
  goes_past Memory number rest told_is falls τ K l new so inside d more lines x reads goes rest_is text are = tt
  goes_past (Unread input n) number rest told_is falls τ K l new so inside d more lines x reads goes rest_is text are = tt

  -- where something fits to the end that is the place where the verdict falls, it is lawful
  pub ends_there : (v : Verdict) (number : ℕ) (rest : List (List ℕ)) (told_is : List ℕ) (falls : FallsAt number rest told_is v) (τ : Tariff) (K : Ledger) (l : List ℕ) (new : Audit) → IsSo τ K l new number rest told_is v falls
      → (end : Ending) → EndsAt script_grammar (status_of end) number rest → EndsTold τ K l end told_is → IsLawful v
  ends_there (Lawful e) number rest told_is falls τ K l new so end at ends = inl (e, refl)
  ends_there (Unkept n) number rest told_is falls τ K l new so end at ends = inr tt
  ends_there Memory number rest told_is falls τ K l new so end at ends = inr tt
  ends_there (Unread input n) number rest told_is falls τ K l new so end at ends = inr tt
  ends_there (Stopped n) number rest told_is falls τ K l new so Ended at ends =
      absurd (not_one (text_of ends.0.reply) [] (subst (λ (z : List ℕ). IsOneLine z) (ends.3 ∙ sym (append-nil (line_of ends.0.reply))) falls.4))
  ends_there (Stopped n) number rest told_is falls τ K l new so (Script k) at ends = let w = event_ends (Script k) number rest falls.1 falls.3 at in absurd (cc (w.0))
  ends_there (Stopped n) number rest told_is falls τ K l new so TooLong at ends = let w = event_ends TooLong number rest falls.1 falls.3 at in absurd (cc (w.0))
  ends_there (Wrong n due) number rest told_is falls τ K l new so Ended at ends =
      let w = event_ends Ended number rest falls.1 falls.2 at in
      absurd (wrong_not τ K l falls.1 told_is new due ends.0 [] falls.3 so.1 (ends.1 ∙ sym w.1) ends.2 (ends.3 ∙ sym (append-nil (line_of ends.0.reply))))
  ends_there (Wrong n due) number rest told_is falls τ K l new so (Script k) at ends = let w = event_ends (Script k) number rest falls.1 falls.2 at in absurd (cc (w.0))
  ends_there (Wrong n due) number rest told_is falls τ K l new so TooLong at ends = let w = event_ends TooLong number rest falls.1 falls.2 at in absurd (cc (w.0))
  ends_there (Forged n) number rest told_is falls τ K l new so Ended at ends =
      let w = event_ends Ended number rest falls.1 falls.2 at in
      absurd (so.0 (subst (λ (f : Event). Unforged f K) (ends.1 ∙ sym w.1) ends.2.unforged))
  ends_there (Forged n) number rest told_is falls τ K l new so (Script k) at ends = let w = event_ends (Script k) number rest falls.1 falls.2 at in absurd (cc (w.0))
  ends_there (Forged n) number rest told_is falls τ K l new so TooLong at ends = let w = event_ends TooLong number rest falls.1 falls.2 at in absurd (cc (w.0))
  ends_there (More n e) number rest told_is falls τ K l new so end at ends = absurd (goes_on e falls.1 falls.2 falls.3 end at ends)
    where
      nothing : (a b : List ℕ) → a ≡ b → a ≡ [] → 0 < length b → ⊥
      nothing a b is none some = let zero : length b ≡ 0 = ap (λ (z : List ℕ). length z) (sym is ∙ none) in omega (arith, zero, some)

      goes_on : (e : Ending) (behind : List ℕ) → EndsSo number rest told_is e behind → 0 < length behind → (x : Ending) → EndsAt script_grammar (status_of x) number rest → EndsTold τ K l x told_is → ⊥
      goes_on Ended behind so some Ended at ends =
          let split = one_split so.report.0 (text_of ends.0.reply) behind [] so.report.1.one (line ends.0.reply ends.2.whole) (sym so.report.1.is ∙ ends.3 ∙ sym (append-nil (line_of ends.0.reply))) in
          nothing behind behind refl split.1 some
      goes_on Ended behind so some (Script k) at ends = nothing told_is (ended so.report.0 ++ behind) so.report.1.is ends (omega (arith, some, length-append (ended so.report.0) behind))
      goes_on Ended behind so some TooLong at ends = nothing told_is (ended so.report.0 ++ behind) so.report.1.is ends (omega (arith, some, length-append (ended so.report.0) behind))
      goes_on (Script n) behind so some (Script k) at ends = nothing told_is behind so.report ends some
      goes_on (Script n) behind so some TooLong at ends = nothing told_is behind so.report ends some
      goes_on TooLong behind so some (Script k) at ends = nothing told_is behind so.report ends some
      goes_on TooLong behind so some TooLong at ends = nothing told_is behind so.report ends some
      goes_on (Script n) behind so some Ended at ends = two_ends rest at so.script
        where
          two_ends : (r : List (List ℕ)) → EndsAt script_grammar status.Done number r → EndsAt script_grammar (status.Script n) number r → ⊥
          two_ends [] a b = absurd a
          two_ends (y ∷ r) a b = elim b.2 [
            | inl long ↦ let short = is_grammar.end_short y a.1 in omega (arith, long, short)
            | inr bad ↦ is_grammar.end_not_bad y a.1 bad
          ]
      goes_on TooLong behind so some Ended at ends = too_many rest at so.script
        where
          too_many : (r : List (List ℕ)) → EndsAt script_grammar status.Done number r → number ≡ 1000001 → ⊥
          too_many [] a b = absurd a
          too_many (y ∷ r) a b = omega (arith, a.0, b)

  -- where the run may have been stopped at the place where the verdict falls, it says so
  pub stops_there : (v : Verdict) (number : ℕ) (rest : List (List ℕ)) (told_is : List ℕ) (falls : FallsAt number rest told_is v) (τ : Tariff) (K : Ledger) (l : List ℕ) (new : Audit) → IsSo τ K l new number rest told_is v falls
      → (e : Event) → IsEvent number rest e → BeginsTold τ K l e told_is → IsStoppedAt v number
  stops_there v number rest told_is falls τ K l new so e next begins = by v falls so
    where
      one_told : IsOneLine told_is
      one_told = prefix_one told_is begins.3.0 (subst (λ (z : List ℕ). IsOneLine z) begins.3.1 (line begins.0.reply begins.2.whole))

      not_ended : (end : Ending) (behind : List ℕ) → EndsSo number rest told_is end behind → ⊥
      not_ended Ended behind at = not_one at.report.0 behind (subst (λ (z : List ℕ). IsOneLine z) at.report.1.is one_told)
      not_ended (Script k) behind at = let w = event_ends (Script k) number rest e next at.script in cc (w.0)
      not_ended TooLong behind at = let w = event_ends TooLong number rest e next at.script in cc (w.0)

      not_wrong : (f : Event) (due : Reply) → e ≡ f → (has : HasSome told_is) → IsWrong τ K l new f due told_is has → ⊥
      not_wrong f due same (has_line answer behind has) wrong = not_one answer behind (subst (λ (z : List ℕ). IsOneLine z) has.is one_told)
      not_wrong f due same (has_prefix prefix behind goes one) wrong =
          wrong.none begins.0.reply (record {
            moves = may_get τ K l prefix f begins.0 (begins.1 ∙ same) begins.2;
            whole = begins.2.whole;
            begins = (behind ++ begins.3.0, begins.3.1 ∙ ap (λ (z : List ℕ). z ++ begins.3.0) goes ∙ append_assoc prefix behind begins.3.0);
          })

      by : (x : Verdict) (at : FallsAt number rest told_is x) → IsSo τ K l new number rest told_is x at → IsStoppedAt x number
      by (Lawful end) at is = absurd (not_ended end [] at)
      by (More n end) at is = absurd (not_ended end at.1 at.2)
      by (Stopped n) at is = inl (ap (λ (k : ℕ). Stopped k) at.0)
      by (Wrong n due) at is = absurd (not_wrong at.1 due (one_next number number rest e at.1 next at.2) at.3 is.1)
      by (Forged n) at is = absurd (is.0 (subst (λ (x : Event). Unforged x K) (begins.1 ∙ one_next number number rest e at.1 next at.2) begins.2.unforged))
      by (Unkept n) at is = inr tt
      by Memory at is = inr tt
      by (Unread input n) at is = inr tt

  module _ (v : Verdict) (script report rates : List ℕ) (old new : Audit) (says : Says v script report rates old new) where
    -- what the verdict says where it falls
    abbrev Falls : Tariff → Ledger → List ℕ → Type 0
    Falls τ K left = IsSo τ K left new (length says.pairs + 1) says.rest says.told v says.falls

    pub beside : (τ : Tariff) (H : Ledger) (trace : List TraceStep) (fits : FitsFirst τ (Begin ∷ H) script report rates trace) → TellsSo τ (Falls τ) (Begin ∷ H) rates says.pairs
        → Compared τ (Falls τ) (Begin ∷ H) rates says.pairs trace says.rest fits.rest says.told fits.told
    beside τ H trace fits so =
        compare one line τ (Falls τ) (Begin ∷ H) rates says.pairs trace says.rest fits.rest says.told fits.told says.prefix.each fits.each fits.go_on
        (sym says.prefix.script_is ∙ fits.script_is) (sym says.prefix.report_is ∙ fits.report_is) so fits.are

    pub no_longer : (τ : Tariff) (H : Ledger) (trace : List TraceStep) (rb : List (List ℕ)) (tb : List ℕ) → length trace ≤ 1000000 → (IsCutShort v → ⊥)
        → Compared τ (Falls τ) (Begin ∷ H) rates says.pairs trace says.rest rb says.told tb → length trace ≤ length says.pairs
    no_longer τ H trace rb tb few other (longer [] K l size so reads goes lines texts are behind left) = omega (arith, size)
    no_longer τ H trace rb tb few other (longer (d ∷ more) K l size so reads goes lines texts are behind left) =
        absurd (other (goes_past v (length says.pairs + 1) says.rest says.told says.falls τ K l new so (omega (arith, size, few)) d more (map traces.line_in more ++ rb) (report_of script_lines more ++ tb)
        reads.0 goes.0 lines (texts ∙ append_assoc (traces.text_for d) (report_of script_lines more) tb) are))
    no_longer τ H trace rb tb few other (shorter p more size is lines texts) = omega (arith, size)

    whole : (τ : Tariff) (H : Ledger) (trace : List TraceStep) (fw : FitsToEnd τ (Begin ∷ H) script report rates trace)
        → Compared τ (Falls τ) (Begin ∷ H) rates says.pairs trace says.rest fw.fits.rest says.told fw.fits.told → IsLawful v
    whole τ H trace fw (longer [] K l size so reads goes lines texts are behind left) =
        let number : length trace + 1 ≡ length says.pairs + 1 = omega (arith, size) in
        ends_there v (length says.pairs + 1) says.rest says.told says.falls τ K l new so fw.end
        (subst (λ (n : ℕ). EndsAt script_grammar (status_of fw.end) n says.rest) number (subst (λ (r : List (List ℕ)). EndsAt script_grammar (status_of fw.end) (length trace + 1) r) (sym lines) fw.ends))
        (subst (λ (x : Ledger). EndsTold τ x l fw.end says.told) (sym behind)
        (subst (λ (x : List ℕ). EndsTold τ (ledger_after τ (Begin ∷ H) (done_in trace)) x fw.end says.told) (sym left)
        (subst (λ (x : List ℕ). EndsTold τ (ledger_after τ (Begin ∷ H) (done_in trace)) (rates_after rates (done_in trace)) fw.end x) (sym texts) fw.ends_told)))
    whole τ H trace fw (longer (d ∷ more) K l size so reads goes lines texts are behind left) =
        inr (goes_past v (length says.pairs + 1) says.rest says.told says.falls τ K l new so (omega (arith, size, fw.fits.few)) d more (map traces.line_in more ++ fw.fits.rest) (report_of script_lines more ++ fw.fits.told)
        reads.0 goes.0 lines (texts ∙ append_assoc (traces.text_for d) (report_of script_lines more) fw.fits.told) are)
    whole τ H trace fw (shorter p more size is lines texts) =
        absurd (not_end fw.end (length trace + 1) (line_in p) (map line_in more ++ says.rest) (omega (arith, size, says.prefix.few)) (pair_passes p is)
        (subst (λ (r : List (List ℕ)). EndsAt script_grammar (status_of fw.end) (length trace + 1) r) lines fw.ends))

    -- no pair is left over
    pub as_long : (τ : Tariff) (H : Ledger) (trace : List TraceStep) (fw : FitsToEnd τ (Begin ∷ H) script report rates trace)
        → Compared τ (Falls τ) (Begin ∷ H) rates says.pairs trace says.rest fw.fits.rest says.told fw.fits.told → length says.pairs ≤ length trace
    as_long τ H trace fw (longer more K l size so reads goes lines texts are behind left) = omega (arith, size)
    as_long τ H trace fw (shorter p more size is lines texts) =
        absurd (not_end fw.end (length trace + 1) (line_in p) (map line_in more ++ says.rest) (omega (arith, size, says.prefix.few)) (pair_passes p is)
        (subst (λ (r : List (List ℕ)). EndsAt script_grammar (status_of fw.end) (length trace + 1) r) lines fw.ends))

    -- if the run may have been stopped after them, it was
    stops_whole : (τ : Tariff) (H : Ledger) (trace : List TraceStep) (fw : FitsStopped τ (Begin ∷ H) script report rates trace)
        → Compared τ (Falls τ) (Begin ∷ H) rates says.pairs trace says.rest fw.fits.rest says.told fw.fits.told → IsStoppedAt v (length trace + 1)
    stops_whole τ H trace fw (longer [] K l size so reads goes lines texts are behind left) =
        let number : length trace + 1 ≡ length says.pairs + 1 = omega (arith, size) in
        subst (λ (n : ℕ). IsStoppedAt v n) (sym number)
        (stops_there v (length says.pairs + 1) says.rest says.told says.falls τ K l new so fw.event
        (subst (λ (n : ℕ). IsEvent n says.rest fw.event) number (subst (λ (r : List (List ℕ)). IsEvent (length trace + 1) r fw.event) (sym lines) fw.next))
        (subst (λ (x : Ledger). BeginsTold τ x l fw.event says.told) (sym behind)
        (subst (λ (x : List ℕ). BeginsTold τ (ledger_after τ (Begin ∷ H) (done_in trace)) x fw.event says.told) (sym left)
        (subst (λ (x : List ℕ). BeginsTold τ (ledger_after τ (Begin ∷ H) (done_in trace)) (rates_after rates (done_in trace)) fw.event x) (sym texts) fw.begins))))
    stops_whole τ H trace fw (longer (d ∷ more) K l size so reads goes lines texts are behind left) =
        inr (goes_past v (length says.pairs + 1) says.rest says.told says.falls τ K l new so (omega (arith, size, fw.fits.few)) d more (map traces.line_in more ++ fw.fits.rest) (report_of script_lines more ++ fw.fits.told)
        reads.0 goes.0 lines (texts ∙ append_assoc (traces.text_for d) (report_of script_lines more) fw.fits.told) are)
    stops_whole τ H trace fw (shorter (Skipped x) more size is lines texts) = absurd (skips_none (length trace + 1) fw.fits.rest fw.event fw.next x (map line_in more ++ says.rest) lines is.is)
    stops_whole τ H trace fw (shorter (Answered x e answer given) more size is lines texts) =
        absurd (not_one answer (flat_map text_for more ++ says.told) (subst (λ (z : List ℕ). IsOneLine z) texts
        (prefix_one fw.fits.told fw.begins.3.0 (subst (λ (z : List ℕ). IsOneLine z) fw.begins.3.1 (line fw.begins.0.reply fw.begins.2.whole)))))

    unfoldable pub first_made : (τ : Tariff) (H : Ledger) (m : Made τ (Falls τ) (Begin ∷ H) rates says.pairs) → FitsFirst τ (Begin ∷ H) script report rates m.trace
    first_made τ H m = record {
      each = m.each;
      go_on = m.go_on;
      few = omega (arith, m.size, says.prefix.few);
      rest = says.rest;
      told = says.told;
      script_is = says.prefix.script_is ∙ ap (λ (x : List (List ℕ)). x ++ says.rest) (sym m.lines);
      report_is = says.prefix.report_is ∙ ap (λ (x : List ℕ). x ++ says.told) (sym m.texts);
      are = m.are;
    }

    -- where it says so, they fit up to where the run was stopped
    stopped_made : (τ : Tariff) (H : Ledger) (n : ℕ) → v ≡ Stopped n → (m : Made τ (Falls τ) (Begin ∷ H) rates says.pairs) → FitsStopped τ (Begin ∷ H) script report rates m.trace
    unfolding first_made
    stopped_made τ H n is m =
        let K = ledger_after τ (Begin ∷ H) (done_in m.trace) in
        let l = rates_after rates (done_in m.trace) in
        let w = stopped_begins τ K l new (length says.pairs + 1) says.rest says.told v says.falls m.holds n is in
        record {
          fits = first_made τ H m;
          event = w.0;
          next = subst (λ (k : ℕ). IsEvent (k + 1) says.rest w.0) (sym m.size) w.1;
          begins = w.2;
        }

    pub fits_made : (τ : Tariff) (H : Ledger) (end : Ending) → v ≡ Lawful end → (m : Made τ (Falls τ) (Begin ∷ H) rates says.pairs) → FitsToEnd τ (Begin ∷ H) script report rates m.trace
    unfolding first_made
    fits_made τ H end is m =
        let K = ledger_after τ (Begin ∷ H) (done_in m.trace) in
        let l = rates_after rates (done_in m.trace) in
        let w = lawful_ends τ K l new (length says.pairs + 1) says.rest says.told v says.falls m.holds end is in
        record {
          fits = first_made τ H m;
          end = end;
          ends = subst (λ (n : ℕ). EndsAt script_grammar (status_of end) (n + 1) says.rest) (sym m.size) w.0;
          ends_told = w.1;
        }

    fits_whole : (τ : Tariff) (H : Ledger) (end : Ending) → v ≡ Lawful end → TellsSo τ (Falls τ) (Begin ∷ H) rates says.pairs
        → (trace : List TraceStep) × FitsToEnd τ (Begin ∷ H) script report rates trace
    fits_whole τ H end is so = let m = made τ (Falls τ) (Begin ∷ H) rates says.pairs says.prefix.each so in (m.trace, fits_made τ H end is m)

    -- with prints that are those of the pairs
    pub fits_printed : (τ : Tariff) (H : Ledger) (end : Ending) (prints : List ℕ) → v ≡ Lawful end → TellsSo τ (Falls τ) (Begin ∷ H) rates says.pairs
        → ArePrinted (imprints_from 1 says.pairs) prints → (trace : List TraceStep) × FitsPrinted τ (Begin ∷ H) script report rates prints trace
    fits_printed τ H end prints is so printed =
        let m = made_printed τ (Falls τ) (Begin ∷ H) rates says.pairs 1 prints says.prefix.each so printed in
        (m.made.trace, record { fits = fits_made τ H end is m.made; run = m.run; prints_are = m.prints })

    -- prints of steps that fit are those of the pairs
    pub printed_back : (τ : Tariff) (H : Ledger) (prints : List ℕ) → (IsCutShort v → ⊥) → TellsSo τ (Falls τ) (Begin ∷ H) rates says.pairs → (trace : List TraceStep)
        → FitsPrinted τ (Begin ∷ H) script report rates prints trace → ArePrinted (imprints_from 1 says.pairs) prints
    printed_back τ H prints other so trace f =
        let fits = f.fits.fits in
        let compared = beside τ H trace fits so in
        let few = no_longer τ H trace fits.rest fits.told fits.few other compared in
        let many = as_long τ H trace f.fits compared in
        given_back one line τ (Falls τ) (Begin ∷ H) rates says.pairs trace 1 says.rest fits.rest says.told fits.told prints says.prefix.each fits.each fits.go_on (omega (arith, few, many))
        (sym says.prefix.script_is ∙ fits.script_is) (sym says.prefix.report_is ∙ fits.report_is) so f.run f.prints_are

    pub exact : IsExact v script report rates old new says
    exact = record {
      longest = λ other τ H texts history seen trace fits. no_longer τ H trace fits.rest fits.told fits.few other (beside τ H trace fits (says.so τ H texts history seen));
      complete = λ τ H texts history seen trace fw. whole τ H trace fw (beside τ H trace fw.fits (says.so τ H texts history seen));
      sound = λ end is τ H texts history seen. fits_whole τ H end is (says.so τ H texts history seen);
      stops = λ τ H texts history seen trace fw. stops_whole τ H trace fw (beside τ H trace fw.fits (says.so τ H texts history seen));
      stopped = λ n is τ H texts history seen.
          let m = made τ (Falls τ) (Begin ∷ H) rates says.pairs says.prefix.each (says.so τ H texts history seen) in
          (m.trace, stopped_made τ H n is m);
    }
