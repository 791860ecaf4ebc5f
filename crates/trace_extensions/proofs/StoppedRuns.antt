-- A run that is called stopped may have been stopped so, by the model of the extension.
use Rattle.std.proofs.lemmas.List.{length-append}
use Rattle.std.proofs.Common.{arith, ◌≡◌, inl, inr, ℕ, ◌+◌, ◌≤◌, List, [], ◌∷◌, ◌++◌, length, map, Option, Some, None, refl, sym, ◌∙◌, ap, subst}
use Rattle.std.proofs.KnownBytes.{Consumes-trans}
use Rattle.std.specs.Io.KnownBytes.{Consumes}
use Rattle.std.specs.List.{AllByRecursion}
use Rattle.bench_base.specs.declared.ledger.Entry.TheVariants.{Begin}
use Rattle.bench_base.specs.Ledger.{Ledger}
use Rattle.bench_base.specs.Rules.{editions}
use Rattle.bench_abstraction.specs.Tariff.{IsOfTexts}
use Rattle.ledger_moves.specs.Tariffs.{Tariff}
use Rattle.ledger_moves.specs.Histories.{History, begins}
use Rattle.line_runs.specs.Runs.{Replayed, DidLast}
use Rattle.line_runs.specs.Trace.{Reads}
use Rattle.line_runs.specs.Turns as turns
use Rattle.line_runs.specs.declared.status.SideStatus.TheVariants.{Stopped}
use Rattle.line_extensions.specs.Desks.{world, side_lines, Does}
use Rattle.line_extensions.specs.SideTrace.{SideStep, side_line}
use Rattle.line_extensions.specs.Wants.{IsAlone}
use Rattle.line_extensions.specs.declared.extension.Extension.{Ghosts}
use Rattle.trace_bench.specs.Seeing.{Audit, Sees}
use Rattle.trace_runs.specs.Between.{SeesBetween}
use Rattle.trace_extensions.specs.FitsStopped.{StopsAt, FitsStopped, IsNumbered, SaysStopped, StopFits, FitsIfStopped}
use Rattle.trace_extensions.specs.Models.{Model, by_model, IsModelOf}
use Rattle.trace_extensions.specs.Places.{place, MayStep}
use Rattle.trace_extensions.specs.Steps.{AuditWorld, AuditStep, IsStop, Passed, Heard, Begun, Ended, audit_line, audit_lines, AuditEnds}
use Rattle.trace_extensions.specs.Steps as audit
use Rattle.trace_extensions.specs.Worlds.{AuditLeaves, DidAudit}
use Rattle.trace_extensions.specs.declared.{papers.Reach.Reach, papers.SideVerdict.SideVerdict}
use Rattle.trace_extensions.specs.declared.papers.SideVerdict.TheVariants as verdict
use Rattle.trace_extensions.proofs.ByModel.{all_of, each_of, go_on_of, all_texts_of, long_same, report_same, line_same, does_of, IsGood}
use Rattle.trace_extensions.proofs.Covered.{last_follows}
use Rattle.trace_extensions.proofs.Cuts.{all_read as all_taken}
use Rattle.trace_extensions.proofs.RunFits.{if_known}
use Rattle.trace_extensions.proofs.Stopped.{none_ends, whole, lines_done, is_left, elsewhere}
use Rattle.trace_extensions.proofs.Translated.{AreStepsOf, same_length, same_report, texts_of, all_read, all_go_on, all_texts, took, took_split}

-- a verdict that says neither
pub never_said : (v : SideVerdict) → ((n : ℕ) → v ≡ verdict.Stopped n → ⊥) → ((n : ℕ) → v ≡ verdict.StoppedInOwn n → ⊥) → SaysStopped v → ⊥
never_said v none own (n, inl is) = none n is
never_said v none own (n, inr is) = own n is

-- and so is another that says the same, of the same line
said_too : (v w : SideVerdict) → ((n : ℕ) → v ≡ verdict.Stopped n → w ≡ verdict.Stopped n) → ((n : ℕ) → v ≡ verdict.StoppedInOwn n → w ≡ verdict.StoppedInOwn n) → SaysStopped v → SaysStopped w
said_too v w one two (n, inl is) = (n, inl (one n is))
said_too v w one two (n, inr is) = (n, inr (two n is))

named_too : (v w : SideVerdict) (number : ℕ) → ((n : ℕ) → v ≡ verdict.Stopped n → w ≡ verdict.Stopped n) → ((n : ℕ) → v ≡ verdict.StoppedInOwn n → w ≡ verdict.StoppedInOwn n) → IsNumbered w number → IsNumbered v number
named_too v w number one two named n (inl is) = named n (inl (one n is))
named_too v w number one two named n (inr is) = named n (inr (two n is))

module _ {K T : Type 0} (k : Ghosts K T) {V : Type 0} (view : K → V) (m : Model V) (modelled : IsModelOf k view m) (alone : (own : k.Own) (line : List ℕ) → k.IsOwn own line → IsAlone line) where
  -- the steps that were done have the lines of the audit
  same_lines : (xs : List (AuditStep k.Own K)) (ys : List (SideStep k.Own)) → AreStepsOf k xs ys → map side_line (all_of k view m modelled ys) ≡ map audit_line xs
  same_lines [] [] are = refl
  same_lines [] (b ∷ ys) are = absurd are
  same_lines (a ∷ xs) [] are = absurd are
  same_lines (a ∷ xs) (b ∷ ys) are =
      ap (λ (l : List ℕ). l ∷ map side_line (all_of k view m modelled ys)) (line_same k view m modelled b ∙ are.0.line) ∙ ap (λ (l : List (List ℕ)). audit_line a ∷ l) (same_lines xs ys are.1)

  -- and they are what they say, and go on
  all_good : (τ : Tariff) (ys : List (SideStep k.Own)) → AllByRecursion (Reads (side_lines k)) ys → AllByRecursion (side_lines k).GoesOn ys → AllByRecursion (IsGood k view m modelled (MayStep τ)) ys
  all_good τ [] each goes = tt
  all_good τ (b ∷ ys) each goes = ((each.0.is, inl goes.0), all_good τ ys each.1 goes.1)

  -- a run that fits, with what it leaves
  abbrev FitsHere : AuditWorld K → AuditWorld K → List ℕ → Tariff → Ledger → List ℕ → List ℕ → Type 0
  FitsHere w0 w1 rates τ H script report =
      (fits : FitsStopped m (λ at line told L kept. StopsAt m τ at line told L kept) τ H script report rates (view w0.desk))
      × History τ editions fits.ledger × SeesBetween w1.audit fits.ledger × m.Alike (view w1.desk) fits.kept × IsNumbered w1.verdict (length fits.trace + 1)

  module _ (script behind : List ℕ) (t0 t1 : Option (List ℕ)) (w0 w1 : AuditWorld K)
      (r : Replayed (audit_lines k) Stopped (turns.Ended (DidAudit k view m) AuditLeaves Stopped w0 w1) (Some script) (Some behind) t0 t1)
      (old : Audit) (rates : List ℕ) (same : w0.rates ≡ rates) (begun : (H : Ledger) → SeesBetween old H → Sees w0.audit (Begin ∷ H)) (first : w0.line ≡ 0) (said : SaysStopped w1.verdict)
      (τ : Tariff) (H : Ledger) (report : List ℕ) (report_is : w0.report ≡ Some report) (texts : IsOfTexts τ) (history : History τ editions H) (sees : Sees w0.audit H) where
    at_begun : (did : DidLast (audit_lines k) r.rest (behind ≡ []) r.done) (line told : List ℕ) (left : AuditWorld K) → did.last ≡ Begun line told left → FitsHere w0 w1 rates τ H script report
    at_begun did line told left last =
        let w = lines_done k view m (Some script) (Some behind) t0 t1 w0 w1 r old rates same begun did line told left last τ H texts history sees in
        let is = is_left k view m (Some script) (Some behind) t0 t1 w0 w1 r old rates same begun did line told left last in
        let stop : StopFits m τ (world w.new.scene (view w.new.desk)) line told w1.audit (view w1.desk) =
        subst (λ (x : AuditWorld K). StopFits m τ (world w.new.scene (view w.new.desk)) line told x.audit (view x.desk)) is (w.that.2 (subst (λ (x : AuditWorld K). SaysStopped x.verdict) (sym is) said)) in
        let each = all_read k r.trace w.steps w.are r.each in
        let all = whole k view m (Some script) (Some behind) t0 t1 w0 w1 r old rates same begun did line told left last in
        let split = took_split k w0 r.did.behind r.trace (Begun line told left ∷ []) all.took in
        let read : Consumes w0.report left.report (texts_of k r.trace ++ told) =
        Consumes-trans w0.report split.0.report left.report (texts_of k r.trace) told (took k w0 split.0 r.trace (none_ends k view m (Some script) (Some behind) t0 t1 w0 w1 r old rates same begun) split.1) split.2.0 in
        let follows = last_follows (audit_lines k) (turns.Ended (DidAudit k view m) AuditLeaves Stopped w0 w1) script t0 t1 Stopped behind r did in
        let line_is : audit_line did.last ≡ line = ap (λ (x : AuditStep k.Own K). audit_line x) last in
        let few : length r.trace + 1 ≤ 1000000 = r.few (λ wrong. absurd (cc wrong)) in
        let size = length-append r.trace (Begun line told left ∷ []) in
        let long = long_same k view m modelled w.steps ∙ same_length k r.trace w.steps w.are in
        let counted = all.lines (omega (arith, few, size, first)) in
        let number : w1.line ≡ length (all_of k view m modelled w.steps) + 1 = omega (arith, ap (λ (x : AuditWorld K). x.line) r.did.leaves, counted, size, first, long) in
        let named : IsNumbered w1.verdict w1.line = subst (λ (x : AuditWorld K). IsNumbered x.verdict x.line) is ((rw last at did.reads.is).0) in (
          record {
            trace = all_of k view m modelled w.steps;
            each = each_of k view m modelled w.steps each;
            go_on = go_on_of k view m modelled w.steps (all_go_on k r.trace w.steps w.are r.go_on);
            few = subst (λ (j : ℕ). j + 1 ≤ 1000000) (sym (long_same k view m modelled w.steps ∙ same_length k r.trace w.steps w.are)) (r.few (λ wrong. absurd (cc wrong)));
            behind = world w.new.scene (view w.new.desk);
            does = subst (λ (x : List ℕ). Does (by_model m) (MayStep τ) (world (place H x) (view w0.desk)) (world w.new.scene (view w.new.desk)) (all_of k view m modelled w.steps)) same
                (does_of k view m modelled (MayStep τ) (world (place H w0.rates) w0.desk) w.new w.steps (all_good τ w.steps each (all_go_on k r.trace w.steps w.are r.go_on)) w.does);
            texts = all_texts_of k view m modelled w.steps (all_texts k r.trace w.steps w.are r.each);
            line = line;
            short = subst (λ (l : List ℕ). length l ≤ 600) line_is did.reads.short;
            rest = follows.0;
            script_is = follows.1 ∙ ap (λ (l : List ℕ). map audit_line r.trace ++ (l ∷ follows.0)) line_is ∙ ap (λ (l : List (List ℕ)). l ++ (line ∷ follows.0)) (sym (same_lines r.trace w.steps w.are));
            told = told;
            report_is = all_taken w0.report left.report report report_is (texts_of k r.trace ++ told) read split.2.1
                ∙ ap (λ (l : List ℕ). l ++ told) (sym (report_same k view m modelled w.steps ∙ same_report k r.trace w.steps w.are));
            ledger = stop.ledger;
            kept = stop.kept;
            stop = stop.stop;
          },
          stop.history,
          stop.sees,
          stop.alike,
          λ n stopped. named n stopped ∙ number,
        )

    by_last : (did : DidLast (audit_lines k) r.rest (behind ≡ []) r.done) (last : AuditStep k.Own K) → did.last ≡ last → AuditEnds last → FitsHere w0 w1 rates τ H script report
    by_last did (Passed line) is ends = absurd ends
    by_last did (Heard line e answer) is ends = absurd ends
    by_last did (audit.Own line own texts) is ends = absurd ends
    by_last did (Begun line told left) is ends = at_begun did line told left is
    by_last did (Ended line left) is ends = absurd (elsewhere k view m (Some script) (Some behind) t0 t1 w0 w1 r old rates same begun did line left is said)

    fits_here : FitsHere w0 w1 rates τ H script report
    fits_here = by_last r.ends.0 r.ends.0.last refl r.ends.1

  -- IF IT IS CALLED STOPPED, it may have been
  module _ (left0 left1 t0 t1 : Option (List ℕ)) (w0 w1 : AuditWorld K) (r : Replayed (audit_lines k) Stopped (turns.Ended (DidAudit k view m) AuditLeaves Stopped w0 w1) left0 left1 t0 t1)
      (old : Audit) (rates : List ℕ) (same : w0.rates ≡ rates) (begun : (H : Ledger) → SeesBetween old H → Sees w0.audit (Begin ∷ H)) (first : w0.line ≡ 0) (said : SideVerdict) where
    pub stop_fitted : ((n : ℕ) → said ≡ verdict.Stopped n → w1.verdict ≡ verdict.Stopped n) → ((n : ℕ) → said ≡ verdict.StoppedInOwn n → w1.verdict ≡ verdict.StoppedInOwn n)
        → FitsIfStopped m left0 w0.report rates (view w0.desk) (view w1.desk) old w1.audit said w0.reach
    stop_fitted one two = if_known k view m modelled alone left0 w0.report _ (λ script report script_is report_is is τ H texts history between.
        let f = by script report (said_too said w1.verdict one two is) report_is τ H texts history between left1
        (subst (λ (o : Option (List ℕ)). Replayed (audit_lines k) Stopped (turns.Ended (DidAudit k view m) AuditLeaves Stopped w0 w1) o left1 t0 t1) script_is r) in
        (f.0, f.1, f.2, f.3, named_too said w1.verdict (length f.0.trace + 1) one two f.4))
      where
        by : (script report : List ℕ) → SaysStopped w1.verdict → w0.report ≡ Some report → (τ : Tariff) (H : Ledger) → IsOfTexts τ → History τ editions H → SeesBetween old H → (left : Option (List ℕ))
            → Replayed (audit_lines k) Stopped (turns.Ended (DidAudit k view m) AuditLeaves Stopped w0 w1) (Some script) left t0 t1 → FitsHere w0 w1 rates τ (Begin ∷ H) script report
        by script report is report_is τ H texts history between None run = absurd run.consumed
        by script report is report_is τ H texts history between (Some behind) run = fits_here script behind t0 t1 w0 w1 run old rates same begun first is τ (Begin ∷ H) report report_is texts (begins history) (begun H between)

  -- it isn't called so
  pub never_stopped : (script report : Option (List ℕ)) (rates : List ℕ) (v w : V) (old new : Audit) (said : SideVerdict) (reach : Option Reach) → (SaysStopped said → ⊥) → FitsIfStopped m script report rates v w old new said reach
  never_stopped script report rates v w old new said reach never = if_known k view m modelled alone script report _ (λ text told script_is report_is is τ H texts history between. absurd (never is))
