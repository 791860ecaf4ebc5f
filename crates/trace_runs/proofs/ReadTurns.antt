-- What becomes of a line, by what was read for it.
use Rattle.std.proofs.Common.{◌≡◌, inl, inr, ℕ, ◌+◌, ◌<◌, ◌≤◌, List, [], ◌∷◌, ◌++◌, length, take, Bool, true, false, Option, Result, Ok, Err, refl, sym, ◌∙◌, ap, subst, arith, append-nil, append_assoc}
use Rattle.std.proofs.lemmas.List.{length-append, take-append-drop}
use Rattle.std.specs.Prelude.{drop}
use Rattle.std.specs.Io.KnownBytes.{Consumes, IsAtEnd}
use Rattle.bench_base.specs.declared.events.Event.{Event}
use Rattle.bench_base.specs.Ledger.{Ledger}
use Rattle.ledger_moves.specs.Histories.{Unforged}
use Rattle.script_text.specs.Grammar.{IsSkipped}
use Rattle.line_runs.specs.declared.lines.LineRead.TheVariants as read
use Rattle.line_runs.specs.Ends.{lines_of}
use Rattle.line_runs.specs.Lines.{IsOneLine, ended}
use Rattle.line_extensions.specs.Events.{IsLineOf, IsBad}
use Rattle.trace_bench.specs.Forging.{AtHistory}
use Rattle.trace_bench.specs.Seeing.{Audit, Sees}
use Rattle.trace_runs.specs.Reads.{IsRead, OfTexts}
use Rattle.trace_runs.specs.Stops.{StopsSo}
use Rattle.trace_runs.specs.Turns.{FellPut, TurnsSo, BeginsWith, IsOver, IsAnswer, IsTurn}
use Rattle.trace_runs.specs.declared.{audit.Step.Step, imprint.Imprint.Imprint, verdict.Ending.Ending, verdict.Verdict.Verdict, verdict.Verdict.TheVariants.Lawful, verdict.Verdict.TheVariants.Stopped, verdict.Verdict.TheVariants.More, verdict.Verdict.TheVariants.Unread}
use Rattle.trace_runs.specs.declared.verdict.Ending.TheVariants as ends
use Rattle.trace_runs.specs.declared.verdict.Input.TheVariants as input
use Rattle.trace_runs.proofs.Comparing.{prefix_one}
use Rattle.trace_runs.proofs.WasRead.{of_map, nothing, some, whole, then_read, FirstLine, ReadAs, long_line}
use Rattle.trace_runs.proofs.Turning.{turned_before, stops, too_long, unread, ends_missing, ends_bad, skips, script_unread}

-- == where the script ends ==

-- What is said there, by what is left of the report.
abbrev pub IsSaid : Ending → ℕ → Option (List ℕ) → Option (List ℕ) → Verdict → Type 0
IsSaid end number left0 left1 v = (r : IsRead left0 left1) × OfTexts r (λ behind told. IsOver end number behind v)

module _ (end : Ending) (number : ℕ) (left0 left1 : Option (List ℕ)) (buf : List ℕ) where
  pub said_lawful : ReadAs left0 left1 buf read.End → IsSaid end number left0 left1 (Lawful end)
  said_lawful r = (whole r.0 r.1 r.2.1, inl (append-nil r.0 ∙ r.2.0, refl))

  said_more : (bytes : List ℕ) → Consumes left0 left1 bytes → 0 < length bytes → IsSaid end number left0 left1 (More number end)
  said_more bytes consumed more = (some bytes consumed, λ told. inr (inl (omega (arith, more, length-append bytes told), refl)))

  pub said_line : (len : ℕ) (is_ended : Bool) → ReadAs left0 left1 buf (read.Line len is_ended) → IsSaid end number left0 left1 (More number end)
  said_line len true r = said_more r.0 r.1 (let long : length r.0 ≡ length (take len buf) + 1 = ap (λ (l : List ℕ). length l) r.2.2 ∙ length-append (take len buf) (10 ∷ []) in omega (arith, long))
  said_line len false r = said_more r.0 r.1 (let long : length r.0 ≡ length (take len buf) = ap (λ (l : List ℕ). length l) r.2.2.0 in omega (arith, long, r.2.2.1))

  pub said_long : ReadAs left0 left1 buf read.Long → IsSaid end number left0 left1 (More number end)
  said_long r = said_more r.0 r.1 (omega (arith, r.2.1))

-- == the answer to an event ==

-- a line was read, and then more
after_line : (number : ℕ) (e : Event) (line rates : List ℕ) (old new : Audit) (before after : List Imprint) (r0 r1 r2 : Option (List ℕ)) (result : Result ℕ Verdict) → Consumes r0 r1 (ended line)
    → IsAnswer number e (ended line) rates old new before after r1 r2 result → IsAnswer number e [] rates old new before after r0 r2 result
after_line number e line rates old new before after r0 r1 r2 result consumed a = record {
  report = then_read (ended line) consumed a.report;
  goes_on = a.goes_on;
  so = of_map a.report.is_all _ _ (λ told so. λ script l lines begins.
      subst (λ (x : List ℕ). TurnsSo number script lines x told rates old new before after result) (sym (append_assoc (ended line) a.report.bytes told)) (so script l lines begins)) a.so;
}

pub line_then : (number : ℕ) (e : Event) (rates : List ℕ) (old new : Audit) (before after : List Imprint) (r0 r1 r2 : Option (List ℕ)) (buf : List ℕ) (len : ℕ) (is_ended : Bool) (result : Result ℕ Verdict) → is_ended ≡ true
    → ReadAs r0 r1 buf (read.Line len is_ended) → IsAnswer number e (ended (take len buf)) rates old new before after r1 r2 result → IsAnswer number e [] rates old new before after r0 r2 result
line_then number e rates old new before after r0 r1 r2 buf len is_ended result same taken a =
    let r = subst (λ (b : Bool). ReadAs r0 r1 buf (read.Line len b)) same taken in
    after_line number e (take len buf) rates old new before after r0 r1 r2 result (subst (λ (x : List ℕ). Consumes r0 r1 x) r.2.2 r.1) a

-- of an auditor that sees whatever the one before did
pub answer_before : (number : ℕ) (e : Event) (rates : List ℕ) (old mid new : Audit) (before after : List Imprint) (r0 r1 : Option (List ℕ)) (result : Result ℕ Verdict) → ((H : Ledger) → Sees old H → Sees mid H)
    → IsAnswer number e [] rates mid new before after r0 r1 result → IsAnswer number e [] rates old new before after r0 r1 result
answer_before number e rates old mid new before after r0 r1 result sees a = record {
  report = a.report;
  goes_on = a.goes_on;
  so = of_map a.report.is_all _ _ (λ told so. λ script line lines begins.
      turned_before number script lines (a.report.bytes ++ told) told rates old mid new before after sees result (so script line lines begins)) a.so;
}

-- the verdict falls before the report is read
pub unanswered : (number : ℕ) (e : Event) (prefix rates : List ℕ) (old new : Audit) (before after : List Imprint) (left : Option (List ℕ)) (v : Verdict)
    → ((behind script line lines : List ℕ) → BeginsWith script line lines e → FellPut number script (prefix ++ behind) rates old new before after v) → IsAnswer number e prefix rates old new before after left left (Err v)
unanswered number e prefix rates old new before after left v fell = record { report = nothing left; goes_on = tt; so = λ behind script line lines begins. fell behind script line lines begins }

module _ (number : ℕ) (inside : number ≤ 1000000) (e : Event) (rates : List ℕ) (old : Audit) (unforged : AtHistory old (λ H. Unforged e H)) (new : Audit) (before after : List Imprint) (r0 r1 : Option (List ℕ)) (buf : List ℕ) where
  -- the report ends within the line, or before it
  cut_off : (v : Verdict) (prefix bytes : List ℕ) → Consumes r0 r1 bytes → IsAtEnd r1 → bytes ≡ prefix → IsOneLine prefix → StopsSo number e prefix rates old new before after v → IsAnswer number e [] rates old new before after r0 r1 (Err v)
  cut_off v prefix bytes consumed end is one stop = record {
    report = whole bytes consumed end;
    goes_on = tt;
    so = λ script line lines begins.
        subst (λ (x : List ℕ). FellPut number script x rates old new before after v) (sym (append-nil bytes ∙ is)) (stops number inside script line lines e begins prefix rates old new v before after one unforged stop);
  }

  pub cut_line : (v : Verdict) (len : ℕ) (is_ended : Bool) → is_ended ≡ false → ReadAs r0 r1 buf (read.Line len is_ended) → StopsSo number e (take len buf) rates old new before after v → IsAnswer number e [] rates old new before after r0 r1 (Err v)
  cut_line v len is_ended same taken stop =
      let r = subst (λ (b : Bool). ReadAs r0 r1 buf (read.Line len b)) same taken in
      cut_off v (take len buf) r.0 r.1 r.2.2.2 r.2.2.0 r.2.1 stop

  pub no_line : (v : Verdict) → ReadAs r0 r1 buf read.End → StopsSo number e [] rates old new before after v → IsAnswer number e [] rates old new before after r0 r1 (Err v)
  no_line v r stop = cut_off v [] r.0 r.1 r.2.1 r.2.0 tt stop

  -- its line is longer than that of any answer
  pub long_answer : (v : Verdict) → ReadAs r0 r1 buf read.Long → ((n : ℕ) → v ≡ Stopped n → ⊥) → StopsSo number e buf rates old new before after v → IsAnswer number e [] rates old new before after r0 r1 (Err v)
  long_answer v r never stop =
      let parts : r.0 ≡ buf ++ drop 600 r.0 = sym (take-append-drop 600 r.0) ∙ ap (λ (l : List ℕ). l ++ drop 600 r.0) r.2.2 in
      record {
        report = some r.0 r.1;
        goes_on = tt;
        so = λ told script line lines begins.
            too_long number inside script line lines e begins (r.0 ++ told) rates old new v buf (drop 600 r.0 ++ told) before after
            (ap (λ (l : List ℕ). l ++ told) parts ∙ append_assoc buf (drop 600 r.0) told) (prefix_one buf (drop 600 r.0) (subst (λ (l : List ℕ). IsOneLine l) parts r.2.0)) never unforged stop;
      }

pub unread_answer : (number : ℕ) (inside : number ≤ 1000000) (e : Event) (rates : List ℕ) (old new : Audit) (before : List Imprint) (r0 r1 : Option (List ℕ)) (buf : List ℕ) → ReadAs r0 r1 buf read.Fault
    → IsAnswer number e [] rates old new before before r0 r1 (Err (Unread input.Report number))
unread_answer number inside e rates old new before r0 r1 buf r = record {
  report = some r.0 r.1;
  goes_on = tt;
  so = λ told script line lines begins. unread number inside script line lines e begins (r.0 ++ told) rates old new before;
}

-- == a turn ==

module _ (number : ℕ) (inside : number ≤ 1000000) (rates : List ℕ) (old : Audit) (before : List Imprint) (s0 s1 : Option (List ℕ)) (buf : List ℕ) where
  pub script_fails : (left : Option (List ℕ)) → ReadAs s0 s1 buf read.Fault → IsTurn number rates old old before before s0 s1 left left (Err (Unread input.Script number))
  script_fails left r = record {
    script = some r.0 r.1;
    report = nothing left;
    goes_on = tt;
    so = λ lines told. script_unread number inside (r.0 ++ lines) told rates old before;
  }

  module _ (v : Verdict) (r0 r1 : Option (List ℕ)) (said : IsSaid (ends.Script number) number r0 r1 v) where
    pub script_ends : ReadAs s0 s1 buf read.End → IsTurn number rates old old before before s0 s1 r0 r1 (Err v)
    script_ends r = record {
      script = whole r.0 r.1 r.2.1;
      report = said.0;
      goes_on = tt;
      so = of_map said.0.is_all _ _ (λ told over.
          subst (λ (x : List ℕ). FellPut number x (said.0.bytes ++ told) rates old old before before v) (sym (append-nil r.0 ∙ r.2.0))
          (ends_missing number (said.0.bytes ++ told) rates old (ends.Script number) v before (inside, refl) over)) said.1;
    }

    pub script_long : ReadAs s0 s1 buf read.Long → IsTurn number rates old old before before s0 s1 r0 r1 (Err v)
    script_long r = record {
      script = some r.0 r.1;
      report = said.0;
      goes_on = tt;
      so = λ lines. of_map said.0.is_all _ _ (λ told over.
          let w = long_line r.0 lines r.2.0 r.2.1 in
          ends_bad number inside (r.0 ++ lines) (said.0.bytes ++ told) rates old w.0 w.1 v before w.2 (inl (omega (arith, w.3))) over) said.1;
    }

    pub script_bad : (line : List ℕ) (is_last : Bool) → FirstLine s0 s1 line is_last → IsBad line → IsTurn number rates old old before before s0 s1 r0 r1 (Err v)
    script_bad line is_last f bad = record {
      script = f.read;
      report = said.0;
      goes_on = tt;
      so = of_map f.read.is_all _ _ (λ lines first. of_map said.0.is_all _ _ (λ told over.
          ends_bad number inside (f.read.bytes ++ lines) (said.0.bytes ++ told) rates old line (lines_of lines) v before first (inr bad) over) said.1) f.first;
    }

  pub script_skips : (line : List ℕ) (step : Step) (left : Option (List ℕ)) → FirstLine s0 s1 line step.is_last → IsSkipped line → step.rates ≡ 0 → IsTurn number rates old old before before s0 s1 left left (Ok step)
  script_skips line step left f is none = record {
    script = f.read;
    report = nothing left;
    goes_on = (f.last, refl);
    so = of_map f.read.is_all _ _ (λ lines first. λ told.
        subst (λ (used : ℕ). TurnsSo number (f.read.bytes ++ lines) lines told told rates old old before before (Ok used)) (sym none)
        (skips number inside (f.read.bytes ++ lines) told rates old before line lines first f.one f.short is)) f.first;
  }

  module _ (line : List ℕ) (is_last : Bool) (f : FirstLine s0 s1 line is_last) (e : Event) (of : IsLineOf e line) (new : Audit) (after : List Imprint) (r0 r1 : Option (List ℕ)) where
    event_so : (result : Result ℕ Verdict) (a : IsAnswer number e [] rates old new before after r0 r1 result)
        → OfTexts f.read (λ text lines. OfTexts a.report (λ answers told. TurnsSo number text lines answers told rates old new before after result))
    event_so result a = of_map f.read.is_all _ _ (λ lines first. of_map a.report.is_all _ _ (λ told so.
        so (f.read.bytes ++ lines) line lines (record { first = first; one = f.one; short = f.short; is = of })) a.so) f.first

    pub event_goes : (step : Step) → step.is_last ≡ is_last → IsAnswer number e [] rates old new before after r0 r1 (Ok step.rates) → IsTurn number rates old new before after s0 s1 r0 r1 (Ok step)
    event_goes step same a = record { script = f.read; report = a.report; goes_on = (f.last ∙ sym same, a.goes_on); so = event_so (Ok step.rates) a }

    pub event_falls : (v : Verdict) → IsAnswer number e [] rates old new before after r0 r1 (Err v) → IsTurn number rates old new before after s0 s1 r0 r1 (Err v)
    event_falls v a = record { script = f.read; report = a.report; goes_on = tt; so = event_so (Err v) a }
