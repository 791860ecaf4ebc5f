-- One run of several: what its verdict says of all executions of it, and what the auditor has after it.
use Rattle.std.proofs.Common.{◌≡◌, inl, inr, ℕ, ◌+◌, List, [], ◌∷◌, length, refl, sym, ◌∙◌, ap, subst, arith}
use Rattle.bench_base.specs.declared.{events.Event.Event, events.Reply.Reply, ledger.Entry.TheVariants.Begin}
use Rattle.bench_base.specs.declared.events.Event.TheVariants as ev
use Rattle.bench_base.specs.declared.events.Reply.TheVariants as r
use Rattle.bench_base.specs.Events.{IsWholeEvent}
use Rattle.bench_base.specs.Ledger.{Ledger}
use Rattle.bench_base.specs.Plans.{Plan, refuse}
use Rattle.bench_base.specs.Rules.{todays_rules, editions}
use Rattle.bench_abstraction.specs.Tariff.{IsOfTexts}
use Rattle.node_acts.specs.Plans.{after, Fails}
use Rattle.ledger_terms.specs.Editions.{Editions}
use Rattle.ledger_moves.specs.Tariffs.{Tariff}
use Rattle.ledger_moves.specs.Moves.{Moves, plan}
use Rattle.ledger_moves.specs.Histories.{History, Unforged, begins}
use Rattle.script_text.specs.Texts.{text_of, IsWholeReply, told}
use Rattle.line_runs.specs.Lines.{IsOneLine}
use Rattle.line_extensions.specs.Trace.{StepRecord, TraceStep, done, done_in}
use Rattle.script_replay.specs.Trace.{ledger_by, ledger_after}
use Rattle.trace_bench.specs.Judging.{text_with}
use Rattle.trace_bench.specs.Seeing.{Audit, Sees}
use Rattle.trace_bench.specs.Stopping.{Leaves}
use Rattle.trace_runs.specs.Audits.{MayTell}
use Rattle.trace_runs.specs.Between.{SeesBetween}
use Rattle.trace_runs.specs.Fitting.{FitsFirst, FitsToEnd, FitsStopped, rates_after, IsCutShort}
use Rattle.trace_runs.specs.Runs.{Papers, StopLeaves, FitsRun, to_the_end, to_a_stop, FindsNothing}
use Rattle.trace_runs.specs.Verdicts.{Pair, EndsSo, IsEvent, MayEnd, IsSo, Says}
use Rattle.trace_runs.specs.declared.{verdict.Ending.Ending, verdict.Ending.TheVariants.Done as Ended, verdict.Ending.TheVariants.Script, verdict.Ending.TheVariants.TooLong, verdict.Verdict.Verdict, verdict.Verdict.TheVariants.Lawful, verdict.Verdict.TheVariants.Stopped, verdict.Verdict.TheVariants.Wrong, verdict.Verdict.TheVariants.Forged, verdict.Verdict.TheVariants.Unkept, verdict.Verdict.TheVariants.More, verdict.Verdict.TheVariants.Memory, verdict.Verdict.TheVariants.Unread}
use Rattle.trace_runs.proofs.Alike.{between}
use Rattle.trace_runs.proofs.Comparing.{Compared, longer, shorter}
use Rattle.trace_runs.proofs.Exact.{one_next, beside, no_longer, as_long, first_made, fits_made, exact}
use Rattle.trace_runs.proofs.Fitted.{Made, made}
use Rattle.trace_runs.proofs.Left.{right_plan, left_seen, left_some, left_history}
use Rattle.trace_runs.proofs.Running.{trace_runs}

-- == `end` adds nothing ==

end_plan : (τ : Tariff) (H : Ledger) (text : List ℕ) → plan τ todays_rules H ev.End text ≡ refuse r.End
unfolding plan
end_plan τ H text = refl

end_fails : (reply : Reply) → Fails (refuse r.End) reply → ⊥
end_fails (r.Power m) (inl up) = let wrong : r.End ≡ r.Up m up.0 = up.1 in cc
end_fails (r.Power m) (inr commits) = let wrong = commits.1 in cc
end_fails (r.Fault m) (inl up) = let wrong : r.End ≡ r.Up m up.0 = up.1 in cc
end_fails (r.Fault m) (inr commits) = let wrong = commits.1 in cc
end_fails (r.PrinterFault j) fails = let wrong : r.End ≡ r.Printed j = fails in cc
end_fails _ fails = fails

ends : (τ : Tariff) (H : Ledger) (text : List ℕ) (reply : Reply) → Moves τ todays_rules H ev.End text reply → reply ≡ r.End
ends τ H text reply moves = elim moves.1 [
  | inl is ↦ is ∙ ap (λ (p : Plan). p.reply) (end_plan τ H text)
  | inr (inl up) ↦ let wrong : r.End ≡ r.Up up.node up.count = sym (ap (λ (p : Plan). p.reply) (end_plan τ H text)) ∙ up.answer_is in absurd (cc)
  | inr (inr (inl fails)) ↦ absurd (end_fails reply (subst (λ (p : Plan). Fails p reply) (end_plan τ H text) fails))
  | inr (inr (inr reads)) ↦ let wrong : ev.End ≡ ev.Rates = reads.event in absurd (cc)
]

end_keeps : (τ : Tariff) (H : Ledger) (left : List ℕ) (d : StepRecord) → d.event ≡ ev.End → MayTell τ H left d → ledger_by τ H d ≡ H
end_keeps τ H left d event may =
    let is : d.reply ≡ r.End = ends τ H d.text d.reply (subst (λ (f : Event). Moves τ todays_rules H f d.text d.reply) event may.moves) in
    ap (λ (f : Event). after (plan τ todays_rules H f d.text) d.reply H) event
    ∙ ap (λ (p : Plan). after p d.reply H) (end_plan τ H d.text)
    ∙ ap (λ (x : Reply). after (refuse r.End) x H) is

-- what is seen after the end of a run is what its steps left
ends_seen : (τ : Tariff) (K : Ledger) (l : List ℕ) (new : Audit) (end : Ending) (number : ℕ) (rest : List (List ℕ)) (told_is : List ℕ) (at : EndsSo number rest told_is end []) → MayEnd τ K l new end told_is [] at.report → Sees new K
ends_seen τ K l new Ended number rest told_is at may =
    let w = may in
    subst (λ (X : Ledger). Sees new X) (end_keeps τ K l w.0 w.1.event w.1.may) w.2
ends_seen τ K l new (Script n) number rest told_is at may = may
ends_seen τ K l new TooLong number rest told_is at may = may

-- == steps that are as many as the pairs ==

there : (τ : Tariff) (So : Ledger → List ℕ → Type 0) (H : Ledger) (left : List ℕ) (a : List Pair) (b : List TraceStep) (ra rb : List (List ℕ)) (ta tb : List ℕ) → length b ≡ length a → Compared τ So H left a b ra rb ta tb
    → So (ledger_after τ H (done_in b)) (rates_after left (done_in b)) × (ra ≡ rb) × (ta ≡ tb)
there τ So H left a b ra rb ta tb many (longer [] K l size so reads goes lines texts are behind left_is) =
    (subst (λ (x : List ℕ). So (ledger_after τ H (done_in b)) x) left_is (subst (λ (X : Ledger). So X l) behind so), lines, texts)
there τ So H left a b ra rb ta tb many (longer (d ∷ more) K l size so reads goes lines texts are behind left_is) = absurd (omega (arith, size, many))
there τ So H left a b ra rb ta tb many (shorter p more size is lines texts) = absurd (omega (arith, size, many))

-- == what a run leaves is a history ==

module _ (E : Editions editions) (τ : Tariff) (H : Ledger) (history : History τ editions H) where
  steps_history : (script report rates : List ℕ) (trace : List TraceStep) → FitsFirst τ (Begin ∷ H) script report rates trace → History τ editions (ledger_after τ (Begin ∷ H) (done_in trace))
  steps_history script report rates trace fits = trace_runs τ (Begin ∷ H) rates (done_in trace) (begins history) fits.are

  -- the event at which a run was stopped is whole, and contains nothing forged
  stop_whole : (script report rates : List ℕ) (trace : List TraceStep) (fits : FitsStopped τ (Begin ∷ H) script report rates trace) → IsWholeEvent fits.event
  stop_whole script report rates trace fits = let w = fits.begins in subst IsWholeEvent w.1 w.2.moves.0

  stop_unforged : (script report rates : List ℕ) (trace : List TraceStep) (fits : FitsStopped τ (Begin ∷ H) script report rates trace) → Unforged fits.event (ledger_after τ (Begin ∷ H) (done_in trace))
  stop_unforged script report rates trace fits =
      let w = fits.begins in
      subst (λ (f : Event). Unforged f (ledger_after τ (Begin ∷ H) (done_in trace))) w.1 w.2.unforged

  pub run_history : (p : Papers) (K : Ledger) → FitsRun τ H p K → History τ editions K
  run_history p K (to_the_end trace fits is) = subst (λ (X : Ledger). History τ editions X) (sym is) (steps_history p.script p.report p.rates trace fits.fits)
  run_history p K (to_a_stop trace fits leaves) =
      left_history τ (ledger_after τ (Begin ∷ H) (done_in trace)) fits.event (rates_after p.rates (done_in trace)) fits.fits.told K (steps_history p.script p.report p.rates trace fits.fits)
      (stop_whole p.script p.report p.rates trace fits) (stop_unforged p.script p.report p.rates trace fits) leaves

-- == the verdict on a run ==

module _ (one : (x y : Reply) → IsWholeReply x → IsWholeReply y → text_of x ≡ text_of y → told x ≡ told y) (line : (r : Reply) → IsWholeReply r → IsOneLine (text_of r)) (E : Editions editions)
    (script report rates : List ℕ) (old new : Audit) (τ : Tariff) (H : Ledger) (texts : IsOfTexts τ) (history : History τ editions H) (seen : SeesBetween old H) where
  abbrev papers : Papers
  papers = record { script = script; report = report; rates = rates }

  module _ (n : ℕ) (says : Says (Stopped n) script report rates old new) where
    abbrev SoStopped : Ledger → List ℕ → Type 0
    SoStopped K left = IsSo τ K left new (length says.pairs + 1) says.rest says.told (Stopped n) says.falls

    -- it fits up to the stop
    stopped_fits : Made τ SoStopped (Begin ∷ H) rates says.pairs → (K : Ledger) × FitsRun τ H papers K
    unfolding first_made
    stopped_fits m =
        let K = ledger_after τ (Begin ∷ H) (done_in m.trace) in
        let l = rates_after rates (done_in m.trace) in
        let begun = m.holds.1 in
        let fits : FitsStopped τ (Begin ∷ H) script report rates m.trace = record {
          fits = first_made one line (Stopped n) script report rates old new says τ H m;
          event = says.falls.1;
          next = subst (λ (k : ℕ). IsEvent (k + 1) says.rest says.falls.1) (sym m.size) says.falls.3;
          begins = (done says.falls.1 (text_with τ K says.falls.1 l says.told begun.reply) begun.reply [], refl, record { unforged = m.holds.0; moves = begun.may.moves; whole = begun.may.whole; takes = refl }, begun.may.begins);
        } in
        let left = left_some τ K says.falls.1 l says.told new begun.leaves in
        (left.0, to_a_stop m.trace fits left.1)

    -- it is stopped at one place
    stopped_long : (trace : List TraceStep) → FitsStopped τ (Begin ∷ H) script report rates trace → length trace ≡ length says.pairs
    stopped_long trace fits = elim ((exact one line (Stopped n) script report rates old new says).stops τ H texts history seen trace fits) [
      | inl is ↦ let number : n ≡ length trace + 1 = cc is in let falls = says.falls.0 in omega (arith, number, falls)
      | inr cut ↦ absurd cut
    ]

    stopped_seen : (K : Ledger) (trace : List TraceStep) (fits : FitsStopped τ (Begin ∷ H) script report rates trace)
        → StopLeaves τ (ledger_after τ (Begin ∷ H) (done_in trace)) fits.event (rates_after rates (done_in trace)) fits.fits.told K → SeesBetween new K
    stopped_seen K trace fits leaves =
        let M = ledger_after τ (Begin ∷ H) (done_in trace) in
        let l = rates_after rates (done_in trace) in
        let compared = beside one line (Stopped n) script report rates old new says τ H trace fits.fits (says.so τ H texts history seen) in
        let w = there τ SoStopped (Begin ∷ H) rates says.pairs trace says.rest fits.fits.rest says.told fits.fits.told (stopped_long trace fits) compared in
        let event : says.falls.1 ≡ fits.event = one_next (length says.pairs + 1) (length trace + 1) fits.fits.rest says.falls.1 fits.event (subst (λ (x : List (List ℕ)). IsEvent (length says.pairs + 1) x says.falls.1) w.1 says.falls.3) fits.next in
        let told_leaves : Leaves τ M says.falls.1 l fits.fits.told new = subst (λ (x : List ℕ). Leaves τ M says.falls.1 l x new) w.2 w.0.1.leaves in
        let whole = stop_whole E τ H history script report rates trace fits in
        let unforged = stop_unforged E τ H history script report rates trace fits in
        left_seen τ M fits.event l fits.fits.told (right_plan τ M fits.event _ E (steps_history E τ H history script report rates trace fits.fits) whole unforged) new K whole
        (subst (λ (f : Event). Leaves τ M f l fits.fits.told new) event told_leaves) leaves

  module _ (end : Ending) (says : Says (Lawful end) script report rates old new) where
    abbrev SoLawful : Ledger → List ℕ → Type 0
    SoLawful K left = IsSo τ K left new (length says.pairs + 1) says.rest says.told (Lawful end) says.falls

    lawful_fits : Made τ SoLawful (Begin ∷ H) rates says.pairs → (K : Ledger) × FitsRun τ H papers K
    lawful_fits m = (ledger_after τ (Begin ∷ H) (done_in m.trace), to_the_end m.trace (fits_made one line (Lawful end) script report rates old new says τ H end refl m) refl)

    lawful_seen : (K : Ledger) (trace : List TraceStep) → FitsToEnd τ (Begin ∷ H) script report rates trace → K ≡ ledger_after τ (Begin ∷ H) (done_in trace) → SeesBetween new K
    lawful_seen K trace fits is =
        let compared = beside one line (Lawful end) script report rates old new says τ H trace fits.fits (says.so τ H texts history seen) in
        let few = no_longer one line (Lawful end) script report rates old new says τ H trace fits.fits.rest fits.fits.told fits.fits.few (λ cut. cut) compared in
        let many = as_long one line (Lawful end) script report rates old new says τ H trace fits compared in
        let w = there τ SoLawful (Begin ∷ H) rates says.pairs trace says.rest fits.fits.rest says.told fits.fits.told (omega (arith, few, many)) compared in
        let sees = ends_seen τ (ledger_after τ (Begin ∷ H) (done_in trace)) (rates_after rates (done_in trace)) new end (length says.pairs + 1) says.rest says.told says.falls w.0 in
        between new K (subst (λ (X : Ledger). Sees new X) (sym is) sees)

  -- A VERDICT THAT FINDS NOTHING: the run fits
  pub run_fits : (v : Verdict) → Says v script report rates old new → FindsNothing v → (K : Ledger) × FitsRun τ H papers K
  run_fits (Lawful end) says nothing = lawful_fits end says (made τ (SoLawful end says) (Begin ∷ H) rates says.pairs says.prefix.each (says.so τ H texts history seen))
  run_fits (Stopped n) says nothing = stopped_fits n says (made τ (SoStopped n says) (Begin ∷ H) rates says.pairs says.prefix.each (says.so τ H texts history seen))
  run_fits (Wrong n due) says nothing = absurd nothing
  run_fits (Forged n) says nothing = absurd nothing
  run_fits (Unkept n) says nothing = absurd nothing
  run_fits (More n end) says nothing = absurd nothing
  run_fits Memory says nothing = absurd nothing
  run_fits (Unread input n) says nothing = absurd nothing

  -- and the auditor sees whatever the run may leave
  pub run_seen : (v : Verdict) → Says v script report rates old new → FindsNothing v → (K : Ledger) → FitsRun τ H papers K → SeesBetween new K
  run_seen (Lawful end) says nothing K (to_the_end trace fits is) = lawful_seen end says K trace fits is
  run_seen (Lawful end) says nothing K (to_a_stop trace fits leaves) = elim ((exact one line (Lawful end) script report rates old new says).stops τ H texts history seen trace fits) [
    | inl is ↦ let wrong : Lawful end ≡ Stopped (length trace + 1) = is in absurd (cc)
    | inr cut ↦ absurd cut
  ]
  run_seen (Stopped n) says nothing K (to_the_end trace fits is) = elim ((exact one line (Stopped n) script report rates old new says).complete τ H texts history seen trace fits) [
    | inl lawful ↦ let wrong : Stopped n ≡ Lawful lawful.0 = lawful.1 in absurd (cc)
    | inr cut ↦ absurd cut
  ]
  run_seen (Stopped n) says nothing K (to_a_stop trace fits leaves) = stopped_seen n says K trace fits leaves
  run_seen (Wrong n due) says nothing K fits = absurd nothing
  run_seen (Forged n) says nothing K fits = absurd nothing
  run_seen (Unkept n) says nothing K fits = absurd nothing
  run_seen (More n end) says nothing K fits = absurd nothing
  run_seen Memory says nothing K fits = absurd nothing
  run_seen (Unread input n) says nothing K fits = absurd nothing

  -- A RUN THAT FITS: the verdict finds nothing, unless it was cut short
  pub run_found : (v : Verdict) → Says v script report rates old new → (IsCutShort v → ⊥) → (K : Ledger) → FitsRun τ H papers K → FindsNothing v
  run_found v says uncut K (to_the_end trace fits is) = elim ((exact one line v script report rates old new says).complete τ H texts history seen trace fits) [
    | inl lawful ↦ subst FindsNothing (sym lawful.1) tt
    | inr cut ↦ absurd (uncut cut)
  ]
  run_found v says uncut K (to_a_stop trace fits leaves) = elim ((exact one line v script report rates old new says).stops τ H texts history seen trace fits) [
    | inl is ↦ subst FindsNothing (sym is) tt
    | inr cut ↦ absurd (uncut cut)
  ]
