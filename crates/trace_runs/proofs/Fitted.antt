-- What was paired fits.
use Rattle.std.proofs.Common.{◌≡◌, ℕ, List, [], ◌∷◌, ◌++◌, length, map, drop, flat_map, None, refl, sym, ◌∙◌, ap, subst, arith, append-nil}
use Rattle.std.specs.List.{AllByRecursion}
use Rattle.bench_base.specs.declared.events.Event.{Event}
use Rattle.bench_base.specs.Ledger.{Ledger}
use Rattle.ledger_moves.specs.Tariffs.{Tariff}
use Rattle.line_runs.specs.Trace.{Reads, report_of}
use Rattle.line_runs.specs.Ends.{EndsAt}
use Rattle.line_runs.specs.Lines.{ended}
use Rattle.line_extensions.specs.Trace as traces
use Rattle.line_extensions.specs.Trace.{TraceStep, Did, GoesOn, done, done_in}
use Rattle.line_extensions.specs.Events.{IsLineOf}
use Rattle.line_extensions.specs.Scripts.{script_lines, script_grammar}
use Rattle.script_replay.specs.Trace.{ledger_by, ledger_after}
use Rattle.trace_bench.specs.Judging.{text_with}
use Rattle.trace_bench.specs.Seeing.{Audit}
use Rattle.trace_runs.specs.Verdicts.{Pair, Skipped, Answered, IsPair, line_in, text_for, status_of, IsEvent, EndsSo, FallsAt, TellsSo, MayEnd, IsSo, last_given}
use Rattle.trace_runs.specs.Fitting.{AreTold, rates_after, EndsTold, BeginsTold}
use Rattle.trace_runs.specs.declared.{verdict.Ending.Ending, verdict.Ending.TheVariants.Done as Ended, verdict.Ending.TheVariants.Script, verdict.Ending.TheVariants.TooLong, verdict.Verdict.Verdict, verdict.Verdict.TheVariants.Lawful, verdict.Verdict.TheVariants.Stopped, verdict.Verdict.TheVariants.Wrong, verdict.Verdict.TheVariants.Forged, verdict.Verdict.TheVariants.Unkept, verdict.Verdict.TheVariants.More, verdict.Verdict.TheVariants.Memory, verdict.Verdict.TheVariants.Unread}

-- steps of these pairs, with P after them
pub record Made (τ : Tariff) (P : Ledger → List ℕ → Type 0) (H : Ledger) (left : List ℕ) (a : List Pair) : Type 0 where
  pub trace : List TraceStep
  pub each : AllByRecursion (Reads script_lines) trace
  pub go_on : AllByRecursion GoesOn trace
  pub size : length trace ≡ length a
  pub lines : map traces.line_in trace ≡ map line_in a
  pub texts : report_of script_lines trace ≡ flat_map text_for a
  pub are : AreTold τ H left (done_in trace)
  pub holds : P (ledger_after τ H (done_in trace)) (rates_after left (done_in trace))

pub made : (τ : Tariff) (P : Ledger → List ℕ → Type 0) (H : Ledger) (left : List ℕ) (a : List Pair) → AllByRecursion IsPair a → TellsSo τ P H left a → Made τ P H left a
made τ P H left [] each tells = record { trace = []; each = tt; go_on = tt; size = refl; lines = refl; texts = refl; are = tt; holds = tells }
made τ P H left (Skipped x ∷ a) each tells =
    let m = made τ P H left a each.1 tells in
    record {
      trace = traces.Skipped x ∷ m.trace;
      each = (record { one = each.0.one; short = each.0.short; is = each.0.is }, m.each);
      go_on = (tt, m.go_on);
      size = omega (arith, m.size);
      lines = ap (λ (l : List (List ℕ)). x ∷ l) m.lines;
      texts = m.texts;
      are = m.are;
      holds = m.holds;
    }
made τ P H left (Answered x e answer given ∷ a) each tells =
    let w = tells in
    let m = made τ P (ledger_by τ H w.0) (drop (length w.0.text) left) a each.1 w.2 in
    record {
      trace = Did x w.0 ∷ m.trace;
      each = (record { one = each.0.one; short = each.0.short; is = (subst (λ (f : Event). IsLineOf f x) (sym w.1.event) each.0.is.0, w.1.may.whole) }, m.each);
      go_on = (λ is. each.0.is.2 (sym w.1.event ∙ is), m.go_on);
      size = omega (arith, m.size);
      lines = ap (λ (l : List (List ℕ)). x ∷ l) m.lines;
      texts = ap (λ (t : List ℕ). ended t ++ report_of script_lines m.trace) w.1.text ∙ ap (λ (l : List ℕ). ended answer ++ l) m.texts;
      are = (w.1.may, m.are);
      holds = m.holds;
    }

module _ (τ : Tariff) (K : Ledger) (l : List ℕ) (new : Audit) (number : ℕ) (rest : List (List ℕ)) (told : List ℕ) where
  ends_told : (end : Ending) (at : EndsSo number rest told end []) → MayEnd τ K l new end told [] at.report → EndsTold τ K l end told
  ends_told Ended at may =
      let w = may in
      (w.0, w.1.event, w.1.may, at.report.1.is ∙ append-nil (ended at.report.0) ∙ ap (λ (t : List ℕ). ended t) (sym w.1.text))
  ends_told (Script n) at may = at.report
  ends_told TooLong at may = at.report

  -- where it is said that a run is lawful, script and report end so
  pub lawful_ends : (v : Verdict) (falls : FallsAt number rest told v) → IsSo τ K l new number rest told v falls → (end : Ending) → v ≡ Lawful end
      → EndsAt script_grammar (status_of end) number rest × EndsTold τ K l end told
  lawful_ends (Lawful e) falls so end is =
      let same : e ≡ end = cc in
      subst (λ (x : Ending). EndsAt script_grammar (status_of x) number rest × EndsTold τ K l x told) same (falls.script, ends_told e falls so)
  lawful_ends (Stopped n) falls so end is = absurd (cc is)
  lawful_ends (Wrong n due) falls so end is = absurd (cc is)
  lawful_ends (Forged n) falls so end is = absurd (cc is)
  lawful_ends (Unkept n) falls so end is = absurd (cc is)
  lawful_ends (More n e) falls so end is = absurd (cc is)
  lawful_ends Memory falls so end is = absurd (cc is)
  lawful_ends (Unread input n) falls so end is = absurd (cc is)

  -- where it is said that a run was stopped, the report ends within a line of the next event
  pub stopped_begins : (v : Verdict) (falls : FallsAt number rest told v) → IsSo τ K l new number rest told v falls → (n : ℕ) → v ≡ Stopped n
      → (e : Event) × IsEvent number rest e × BeginsTold τ K l e told
  stopped_begins (Stopped k) falls so n is =
      let w = so.1 in
      let text = text_with τ K falls.1 l told w.reply in
      (falls.1, falls.3, (done falls.1 text w.reply [], refl, record { unforged = so.0; moves = w.may.moves; whole = w.may.whole; takes = refl }, w.may.begins))
  stopped_begins (Lawful e) falls so n is = absurd (cc is)
  stopped_begins (Wrong k due) falls so n is = absurd (cc is)
  stopped_begins (Forged k) falls so n is = absurd (cc is)
  stopped_begins (Unkept k) falls so n is = absurd (cc is)
  stopped_begins (More k end) falls so n is = absurd (cc is)
  stopped_begins Memory falls so n is = absurd (cc is)
  stopped_begins (Unread input k) falls so n is = absurd (cc is)

-- nothing is open of what a run printed that was not stopped
pub none_open : (number : ℕ) (rest : List (List ℕ)) (told : List ℕ) (v : Verdict) (falls : FallsAt number rest told v) (end : Ending) → v ≡ Lawful end → last_given number rest told v falls ≡ None
none_open number rest told (Lawful e) falls end is = refl
none_open number rest told (Stopped n) falls end is = absurd (cc is)
none_open number rest told (Wrong n due) falls end is = refl
none_open number rest told (Forged n) falls end is = refl
none_open number rest told (Unkept n) falls end is = refl
none_open number rest told (More n e) falls end is = refl
none_open number rest told Memory falls end is = refl
none_open number rest told (Unread input n) falls end is = refl
