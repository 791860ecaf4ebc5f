-- Two verdicts over the same bytes are one.
use Rattle.std.proofs.Common.{◌≡◌, inl, inr, ℕ, ◌+◌, ◌≤◌, List, [], ◌∷◌, ◌++◌, length, refl, sym, ◌∙◌, ap, subst, arith}
use Rattle.bench_base.specs.declared.{events.Event.Event, events.Reply.Reply, ledger.Entry.TheVariants.Begin}
use Rattle.bench_base.specs.declared.events.Event.TheVariants as ev
use Rattle.bench_base.specs.Ledger.{Ledger, day_in}
use Rattle.bench_base.specs.Replies.{Did}
use Rattle.bench_base.specs.Rules.{todays_rules}
use Rattle.ledger_moves.specs.Tariffs.{Tariff}
use Rattle.ledger_moves.specs.Moves.{answer}
use Rattle.ledger_moves.specs.Histories.{Unforged}
use Rattle.script_text.specs.Texts.{text_of, IsWholeReply, told}
use Rattle.line_runs.specs.Ends.{EndsAt}
use Rattle.line_runs.specs.Lines.{IsOneLine, ended}
use Rattle.line_extensions.specs.Trace.{StepRecord, TraceStep, done_in, line_of}
use Rattle.line_extensions.specs.Scripts.{script_grammar}
use Rattle.line_extensions.specs.ScriptLaws.{is_grammar}
use Rattle.script_replay.specs.Trace.{ledger_after}
use Rattle.trace_bench.specs.Judging.{taken_by}
use Rattle.trace_bench.specs.Seeing.{Audit}
use Rattle.trace_runs.specs.Audits.{MayTell}
use Rattle.trace_runs.specs.Verdicts.{status_of, IsEvent, HasSome, has_line, has_prefix, EndsSo, FallsAt, MayEnd, IsWrong, IsSo, Says, TellsSo}
use Rattle.trace_runs.specs.Fitting.{FitsFirst, rates_after, IsCutShort, AreEqual}
use Rattle.trace_runs.specs.declared.{verdict.Ending.Ending, verdict.Ending.TheVariants.Done as Ended, verdict.Ending.TheVariants.Script, verdict.Ending.TheVariants.TooLong, verdict.Verdict.Verdict, verdict.Verdict.TheVariants.Lawful, verdict.Verdict.TheVariants.Stopped, verdict.Verdict.TheVariants.Wrong, verdict.Verdict.TheVariants.Forged, verdict.Verdict.TheVariants.Unkept, verdict.Verdict.TheVariants.More, verdict.Verdict.TheVariants.Memory, verdict.Verdict.TheVariants.Unread}
use Rattle.trace_runs.proofs.Fitted.{Made, made, lawful_ends, stopped_begins}
use Rattle.trace_runs.proofs.Comparing.{Compared, longer, shorter}
use Rattle.trace_runs.proofs.Exact.{event_ends, one_next, wrong_not, ends_there, stops_there, beside, first_made, exact}

-- a script ends in one way
ends_apart : (n number : ℕ) (rest : List (List ℕ)) → EndsAt script_grammar (status_of Ended) number rest → EndsAt script_grammar (status_of (Script n)) number rest → ⊥
ends_apart n number [] a b = absurd a
ends_apart n number (y ∷ r) a b = elim b.2 [
  | inl long ↦ let short = is_grammar.end_short y a.1 in omega (arith, long, short)
  | inr bad ↦ is_grammar.end_not_bad y a.1 bad
]

few_at_end : (number : ℕ) (rest : List (List ℕ)) → EndsAt script_grammar (status_of Ended) number rest → number ≡ 1000001 → ⊥
few_at_end number [] a many = absurd a
few_at_end number (y ∷ r) a many = omega (arith, a.0, many)

script_at : (n number : ℕ) (rest : List (List ℕ)) → EndsAt script_grammar (status_of (Script n)) number rest → (number ≤ 1000000) × (n ≡ number)
script_at n number [] a = (a.0, a.1)
script_at n number (y ∷ r) a = (a.0, a.1)

one_end : (x y : Ending) (number : ℕ) (rest : List (List ℕ)) → EndsAt script_grammar (status_of x) number rest → EndsAt script_grammar (status_of y) number rest → x ≡ y
one_end Ended Ended number rest a b = refl
one_end Ended (Script k) number rest a b = absurd (ends_apart k number rest a b)
one_end Ended TooLong number rest a b = absurd (few_at_end number rest a b)
one_end (Script n) Ended number rest a b = absurd (ends_apart n number rest b a)
one_end (Script n) (Script k) number rest a b = ap (λ (i : ℕ). Script i) ((script_at n number rest a).1 ∙ sym (script_at k number rest b).1)
one_end (Script n) TooLong number rest a b = let w = script_at n number rest a in absurd (omega (arith, w.0, b))
one_end TooLong Ended number rest a b = absurd (few_at_end number rest b a)
one_end TooLong (Script k) number rest a b = let w = script_at k number rest b in absurd (omega (arith, w.0, a))
one_end TooLong TooLong number rest a b = refl

-- the verdict falls there, and what it says there is so
pub record At (τ : Tariff) (K : Ledger) (l : List ℕ) (number : ℕ) (rest : List (List ℕ)) (told_is : List ℕ) (new : Audit) (v : Verdict) : Type 0 where
  pub falls : FallsAt number rest told_is v
  pub so : IsSo τ K l new number rest told_is v falls

module _ (one : (x y : Reply) → IsWholeReply x → IsWholeReply y → text_of x ≡ text_of y → told x ≡ told y) (line : (r : Reply) → IsWholeReply r → IsOneLine (text_of r)) where
  -- Two verdicts fall at the line of this number, at one ledger with the same rates left.
  module _ (τ : Tariff) (K : Ledger) (l : List ℕ) (number : ℕ) (rest : List (List ℕ)) (told_is : List ℕ) where
    abbrev pub Falls : Audit → Verdict → Type 0
    Falls new v = At τ K l number rest told_is new v

    lawful_one : (e : Ending) (new other : Audit) (w : Verdict) → Falls new (Lawful e) → Falls other w → (IsCutShort w → ⊥) → Lawful e ≡ w
    lawful_one e new other w a b whole =
        let ends = lawful_ends τ K l new number rest told_is (Lawful e) a.falls a.so e refl in
        elim (ends_there one line w number rest told_is b.falls τ K l other b.so e ends.0 ends.1) [
          | inl is ↦
              let at = lawful_ends τ K l other number rest told_is w b.falls b.so is.0 is.1 in
              ap (λ (x : Ending). Lawful x) (one_end e is.0 number rest ends.0 at.0) ∙ sym is.1
          | inr cut ↦ absurd (whole cut)
        ]

    stopped_one : (n : ℕ) (new other : Audit) (w : Verdict) → Falls new (Stopped n) → Falls other w → (IsCutShort w → ⊥) → Stopped n ≡ w
    stopped_one n new other w a b whole =
        let begun = stopped_begins τ K l new number rest told_is (Stopped n) a.falls a.so n refl in
        elim (stops_there one line w number rest told_is b.falls τ K l other b.so begun.0 begun.1 begun.2) [
          | inl is ↦ ap (λ (k : ℕ). Stopped k) a.falls.0 ∙ sym is
          | inr cut ↦ absurd (whole cut)
        ]

    -- the answer that was due is the plan's
    due_of : (new : Audit) (e : Event) (due : Reply) (has : HasSome told_is) → IsWrong τ K l new e due told_is has → due ≡ answer τ todays_rules K e (taken_by e (day_in K) Did l)
    due_of new e due (has_line answer behind has) wrong = wrong.due_is
    due_of new e due (has_prefix prefix behind is one_line) wrong = wrong.due_is

    -- where the report goes on, the event of that line is `end`, and it got its line
    ended_of : (n : ℕ) (end : Ending) (new : Audit) → Falls new (More n end) → (e : Event) → IsEvent number rest e
        → (d : StepRecord) × (d.event ≡ e) × MayTell τ K l d × (behind : List ℕ) × (told_is ≡ line_of d.reply ++ behind)
    ended_of n end new a e is = by end a.falls.1 a.falls.2 a.so (event_ends end number rest e is a.falls.2.script)
      where
        by : (x : Ending) (behind : List ℕ) (at : EndsSo number rest told_is x behind) → MayEnd τ K l new x told_is behind at.report → (x ≡ Ended) × (e ≡ ev.End)
            → (d : StepRecord) × (d.event ≡ e) × MayTell τ K l d × (behind : List ℕ) × (told_is ≡ line_of d.reply ++ behind)
        by Ended behind at may w =
            (may.0, may.1.event ∙ sym w.1, may.1.may, behind, at.report.1.is ∙ ap (λ (t : List ℕ). ended t ++ behind) (sym may.1.text))
        by (Script k) behind at may w = let wrong = w.0 in absurd (cc wrong)
        by TooLong behind at may w = let wrong = w.0 in absurd (cc wrong)

    more_wrong : (n k : ℕ) (end : Ending) (due : Reply) (new other : Audit) → Falls new (More n end) → Falls other (Wrong k due) → ⊥
    more_wrong n k end due new other a b =
        let w = ended_of n end new a b.falls.1 b.falls.2 in
        wrong_not one line τ K l b.falls.1 told_is other due w.0 w.3 b.falls.3 b.so.1 w.1 w.2 w.4

    more_forged : (n k : ℕ) (end : Ending) (new other : Audit) → Falls new (More n end) → Falls other (Forged k) → ⊥
    more_forged n k end new other a b =
        let w = ended_of n end new a b.falls.1 b.falls.2 in
        b.so.0 (subst (λ (f : Event). Unforged f K) w.1 w.2.unforged)

    wrong_forged : (n k : ℕ) (due : Reply) (new other : Audit) → Falls new (Wrong n due) → Falls other (Forged k) → ⊥
    wrong_forged n k due new other a b = b.so.0 (subst (λ (f : Event). Unforged f K) (one_next number number rest a.falls.1 b.falls.1 a.falls.2 b.falls.2) a.so.0)

    wrong_one : (n k : ℕ) (due due' : Reply) (new other : Audit) → Falls new (Wrong n due) → Falls other (Wrong k due') → Wrong n due ≡ Wrong k due'
    wrong_one n k due due' new other a b =
        let dues : due ≡ due' =
        due_of new a.falls.1 due a.falls.3 a.so.1
        ∙ ap (λ (f : Event). answer τ todays_rules K f (taken_by f (day_in K) Did l)) (one_next number number rest a.falls.1 b.falls.1 a.falls.2 b.falls.2)
        ∙ sym (due_of other b.falls.1 due' b.falls.3 b.so.1) in
        ap (λ (i : ℕ). Wrong i due) (a.falls.0 ∙ sym b.falls.0) ∙ ap (λ (x : Reply). Wrong k x) dues

    more_one : (n k : ℕ) (end end' : Ending) (new other : Audit) → Falls new (More n end) → Falls other (More k end') → More n end ≡ More k end'
    more_one n k end end' new other a b =
        ap (λ (i : ℕ). More i end) (a.falls.0 ∙ sym b.falls.0) ∙ ap (λ (x : Ending). More k x) (one_end end end' number rest a.falls.2.script b.falls.2.script)

    one_there : (v w : Verdict) (new other : Audit) → Falls new v → Falls other w → (IsCutShort v → ⊥) → (IsCutShort w → ⊥) → v ≡ w
    one_there (Lawful e) w new other a b whole whole' = lawful_one e new other w a b whole'
    one_there (Stopped n) w new other a b whole whole' = stopped_one n new other w a b whole'
    one_there v (Lawful e) new other a b whole whole' = sym (lawful_one e other new v b a whole)
    one_there v (Stopped n) new other a b whole whole' = sym (stopped_one n other new v b a whole)
    one_there (Wrong n due) (Wrong k due') new other a b whole whole' = wrong_one n k due due' new other a b
    one_there (Wrong n due) (Forged k) new other a b whole whole' = absurd (wrong_forged n k due new other a b)
    one_there (Wrong n due) (More k end) new other a b whole whole' = absurd (more_wrong k n end due other new b a)
    one_there (Forged n) (Wrong k due) new other a b whole whole' = absurd (wrong_forged k n due other new b a)
    one_there (Forged n) (Forged k) new other a b whole whole' = ap (λ (i : ℕ). Forged i) (a.falls.0 ∙ sym b.falls.0)
    one_there (Forged n) (More k end) new other a b whole whole' = absurd (more_forged k n end other new b a)
    one_there (More n end) (Wrong k due) new other a b whole whole' = absurd (more_wrong n k end due new other a b)
    one_there (More n end) (Forged k) new other a b whole whole' = absurd (more_forged n k end new other a b)
    one_there (More n end) (More k end') new other a b whole whole' = more_one n k end end' new other a b
    one_there (Unkept n) w new other a b whole whole' = absurd (whole tt)
    one_there Memory w new other a b whole whole' = absurd (whole tt)
    one_there (Unread input n) w new other a b whole whole' = absurd (whole tt)
    one_there v (Unkept n) new other a b whole whole' = absurd (whole' tt)
    one_there v Memory new other a b whole whole' = absurd (whole' tt)
    one_there v (Unread input n) new other a b whole whole' = absurd (whole' tt)

  -- at the same place, whatever it is called
  there : (τ : Tariff) (K K' : Ledger) (l l' : List ℕ) (n n' : ℕ) (rest rest' : List (List ℕ)) (t t' : List ℕ) (new : Audit) (v : Verdict) → K ≡ K' → l ≡ l' → n ≡ n' → rest ≡ rest' → t ≡ t'
      → At τ K' l' n' rest' t' new v → At τ K l n rest t new v
  there τ K K' l l' n n' rest rest' t t' new v ledgers lefts numbers rests texts at =
      subst (λ (x : Ledger). At τ x l n rest t new v) (sym ledgers)
      (subst (λ (x : List ℕ). At τ K' x n rest t new v) (sym lefts)
      (subst (λ (x : ℕ). At τ K' l' x rest t new v) (sym numbers)
      (subst (λ (x : List (List ℕ)). At τ K' l' n' x t new v) (sym rests)
      (subst (λ (x : List ℕ). At τ K' l' n' rest' x new v) (sym texts) at))))

  module _ (v w : Verdict) (script report rates : List ℕ) (old new other : Audit) (a : Says v script report rates old new) (b : Says w script report rates old other)
      (whole : IsCutShort v → ⊥) (whole' : IsCutShort w → ⊥) (τ : Tariff) (H : Ledger) where
    abbrev FallsA : Ledger → List ℕ → Type 0
    FallsA K left = IsSo τ K left new (length a.pairs + 1) a.rest a.told v a.falls

    abbrev FallsB : Ledger → List ℕ → Type 0
    FallsB K left = IsSo τ K left other (length b.pairs + 1) b.rest b.told w b.falls

    same_place : (m : Made τ FallsB (Begin ∷ H) rates b.pairs) → length a.pairs ≡ length b.pairs
        → Compared τ FallsA (Begin ∷ H) rates a.pairs m.trace a.rest b.rest a.told b.told → v ≡ w
    same_place m same (longer [] K l size so reads goes lines texts are behind left) =
        one_there τ K l (length a.pairs + 1) a.rest a.told v w new other (record { falls = a.falls; so = so })
        (there τ K (ledger_after τ (Begin ∷ H) (done_in m.trace)) l (rates_after rates (done_in m.trace)) (length a.pairs + 1) (length b.pairs + 1) a.rest b.rest a.told b.told other w behind left
        (ap (λ (n : ℕ). n + 1) same) lines texts (record { falls = b.falls; so = m.holds })) whole whole'
    same_place m same (longer (d ∷ more) K l size so reads goes lines texts are behind left) = absurd (omega (arith, size, same, m.size))
    same_place m same (shorter p more size is lines texts) = absurd (omega (arith, size, same, m.size))

    pub equal : ((x : Verdict) (s : Audit) (says : Says x script report rates old s) → (IsCutShort x → ⊥) → (trace : List TraceStep) → FitsFirst τ (Begin ∷ H) script report rates trace → length trace ≤ length says.pairs)
        → TellsSo τ FallsA (Begin ∷ H) rates a.pairs → TellsSo τ FallsB (Begin ∷ H) rates b.pairs → v ≡ w
    unfolding first_made
    equal longest so so' =
        let m = made τ FallsA (Begin ∷ H) rates a.pairs a.prefix.each so in
        let m' = made τ FallsB (Begin ∷ H) rates b.pairs b.prefix.each so' in
        let fits = first_made one line v script report rates old new a τ H m in
        let fits' = first_made one line w script report rates old other b τ H m' in
        let few = longest w other b whole' m.trace fits in
        let few' = longest v new a whole m'.trace fits' in
        same_place m' (omega (arith, few, few', m.size, m'.size)) (beside one line v script report rates old new a τ H m'.trace fits' so)

  pub one_verdict : (v w : Verdict) (script report rates : List ℕ) (old new other : Audit) → AreEqual v w script report rates old new other
  one_verdict v w script report rates old new other a b whole whole' τ H texts history seen =
      equal v w script report rates old new other a b whole whole' τ H
      (λ x s says uncut trace fits. (exact one line x script report rates old s says).longest uncut τ H texts history seen trace fits)
      (a.so τ H texts history seen) (b.so τ H texts history seen)
