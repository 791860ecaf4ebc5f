-- Several runs, one after the other.
use Rattle.std.proofs.Common.{◌≡◌, ℕ, List, [], ◌∷◌, ◌++◌, Option, refl, sym, subst}
use Rattle.std.specs.List.{AllByRecursion}
use Rattle.bench_base.specs.declared.events.Reply.{Reply}
use Rattle.bench_base.specs.Ledger.{Ledger}
use Rattle.bench_base.specs.Rules.{editions}
use Rattle.bench_abstraction.specs.Tariff.{IsOfTexts}
use Rattle.ledger_terms.specs.Editions.{Editions}
use Rattle.ledger_moves.specs.Tariffs.{Tariff}
use Rattle.ledger_moves.specs.Histories.{History}
use Rattle.script_text.specs.Texts.{text_of, IsWholeReply, told}
use Rattle.line_runs.specs.Lines.{IsOneLine}
use Rattle.trace_bench.specs.Seeing.{Audit}
use Rattle.trace_runs.specs.Between.{SeesBetween}
use Rattle.trace_runs.specs.Fitting.{IsCutShort}
use Rattle.trace_runs.specs.Reads.{OfTexts}
use Rattle.trace_runs.specs.Runs.{Papers, FitsRun, FitRuns, Fit, FindsNothing, HasJudged, FitNot, JudgesSo, JudgesNext, JudgesNextOf, AuditedRun, AreAudited, papers_of, AreExact}
use Rattle.trace_runs.specs.Verdicts.{Says, Audited, AuditedOf}
use Rattle.trace_runs.specs.declared.{imprint.Imprint.Imprint, verdict.Verdict.Verdict, verdict.Verdict.TheVariants.Lawful, verdict.Verdict.TheVariants.Stopped, verdict.Verdict.TheVariants.Wrong, verdict.Verdict.TheVariants.Forged, verdict.Verdict.TheVariants.Unkept, verdict.Verdict.TheVariants.More, verdict.Verdict.TheVariants.Memory, verdict.Verdict.TheVariants.Unread}
use Rattle.trace_runs.proofs.Alike.{between}
use Rattle.trace_runs.proofs.EachRun.{run_history, run_fits, run_seen, run_found}
use Rattle.trace_runs.proofs.WasRead.{of_map}

-- one run more
pub one_more : (τ : Tariff) (H L K : Ledger) (runs : List Papers) (p : Papers) → FitRuns τ H runs L → FitsRun τ L p K → FitRuns τ H (runs ++ p ∷ []) K
one_more τ H L K [] p is fits = (K, subst (λ (X : Ledger). FitsRun τ X p K) is fits, refl)
one_more τ H L K (q ∷ runs) p fit fits = (fit.0, fit.1, one_more τ fit.0 L K runs p fit.2 fits)

pub last_of : (τ : Tariff) (H K : Ledger) (runs : List Papers) (p : Papers) → FitRuns τ H (runs ++ p ∷ []) K → (L : Ledger) × FitRuns τ H runs L × FitsRun τ L p K
last_of τ H K [] p fit = (H, refl, subst (λ (X : Ledger). FitsRun τ H p X) (sym fit.2) fit.1)
last_of τ H K (q ∷ runs) p fit =
    let w = last_of τ fit.0 K runs p fit.2 in
    (w.0, (fit.0, fit.1, w.1), w.2)

pub runs_history : Editions editions → (τ : Tariff) (H K : Ledger) (runs : List Papers) → History τ editions H → FitRuns τ H runs K → History τ editions K
runs_history E τ H K [] history is = subst (λ (X : Ledger). History τ editions X) (sym is) history
runs_history E τ H K (p ∷ runs) history fit = runs_history E τ fit.0 K runs (run_history E τ H history p fit.0 fit.1) fit.2

module _ (one : (x y : Reply) → IsWholeReply x → IsWholeReply y → text_of x ≡ text_of y → told x ≡ told y) (line : (r : Reply) → IsWholeReply r → IsOneLine (text_of r)) (E : Editions editions) where
  -- == the next run ==

  module _ (start old new : Audit) (runs : List Papers) (p : Papers) (judged : HasJudged start runs old) where
    -- at each history that the auditor sees now
    abbrev AtSeenNow : (Tariff → Ledger → Type 0) → Type 0
    AtSeenNow Q = (τ : Tariff) (L : Ledger) → IsOfTexts τ → History τ editions L → SeesBetween old L → Q τ L

    more_judged : AtSeenNow (λ τ L. (K : Ledger) × FitsRun τ L p K) → AtSeenNow (λ τ L. (K : Ledger) → FitsRun τ L p K → SeesBetween new K) → HasJudged start (runs ++ p ∷ []) new
    more_judged fits next = record {
      fit = λ τ H texts history sees.
          let before = judged.fit τ H texts history sees in
          let w = fits τ before.0 texts (runs_history E τ H before.0 runs history before.1) (judged.sees τ H texts history sees before.0 before.1) in
          (w.0, one_more τ H before.0 w.0 runs p before.1 w.1);
      sees = λ τ H texts history sees K fit.
          let w = last_of τ H K runs p fit in
          next τ w.0 texts (runs_history E τ H w.0 runs history w.1) (judged.sees τ H texts history sees w.0 w.1) K w.2;
    }

    none_fit : AtSeenNow (λ τ L. (K : Ledger) → FitsRun τ L p K → ⊥) → FitNot start (runs ++ p ∷ [])
    none_fit never τ H texts history sees fit =
        let w = last_of τ H fit.0 runs p fit.1 in
        never τ w.0 texts (runs_history E τ H w.0 runs history w.1) (judged.sees τ H texts history sees w.0 w.1) fit.0 w.2

    nothing_found : (v : Verdict) → FindsNothing v → Says v p.script p.report p.rates old new → HasJudged start (runs ++ p ∷ []) new
    nothing_found v nothing says = more_judged
        (λ τ L texts history seen. run_fits one line E p.script p.report p.rates old new τ L texts history seen v says nothing)
        (λ τ L texts history seen K fits. run_seen one line E p.script p.report p.rates old new τ L texts history seen v says nothing K fits)

    found : (v : Verdict) → (FindsNothing v → ⊥) → (IsCutShort v → ⊥) → Says v p.script p.report p.rates old new → FitNot start (runs ++ p ∷ [])
    found v some uncut says = none_fit (λ τ L texts history seen K fits. some (run_found one line E p.script p.report p.rates old new τ L texts history seen v says uncut K fits))

    pub judges_so : (v : Verdict) → Says v p.script p.report p.rates old new → JudgesSo v start (runs ++ p ∷ []) new
    judges_so (Lawful end) says = nothing_found (Lawful end) tt says
    judges_so (Stopped n) says = nothing_found (Stopped n) tt says
    judges_so (Wrong n due) says = found (Wrong n due) (λ x. x) (λ x. x) says
    judges_so (Forged n) says = found (Forged n) (λ x. x) (λ x. x) says
    judges_so (More n end) says = found (More n end) (λ x. x) (λ x. x) says
    judges_so (Unkept n) says = tt
    judges_so Memory says = tt
    judges_so (Unread input n) says = tt

  -- of what was read
  pub judges_next : (v : Verdict) (script0 script1 report0 report1 : Option (List ℕ)) (rates : List ℕ) (old new : Audit) (before after : List Imprint)
      → AuditedOf v script0 script1 report0 report1 rates old new before after → JudgesNextOf v script0 script1 report0 report1 rates old new
  judges_next v script0 script1 report0 report1 rates old new before after a = record {
    script = a.script;
    report = a.report;
    so = of_map a.script.is_all (λ x. OfTexts a.report (λ answers told. Audited v (a.script.bytes ++ x) answers rates old new before after)) (λ x. OfTexts a.report (λ answers told. JudgesNext v (papers (a.script.bytes ++ x) answers) old new))
        (λ x. of_map a.report.is_all (λ y. Audited v (a.script.bytes ++ x) (a.report.bytes ++ y) rates old new before after) (λ y. JudgesNext v (papers (a.script.bytes ++ x) (a.report.bytes ++ y)) old new)
        (λ y says start runs judged. judges_so start old new runs (papers (a.script.bytes ++ x) (a.report.bytes ++ y)) judged v says.says)) a.so;
  }
    where
      papers : List ℕ → List ℕ → Papers
      papers text answers = record { script = text; report = answers; rates = rates }

  -- == all runs ==

  abbrev FindNothing : List AuditedRun → Type 0
  FindNothing audits = AllByRecursion (λ r. FindsNothing r.verdict) audits

  all_fit : (τ : Tariff) (a : Audit) (H : Ledger) (audits : List AuditedRun) → IsOfTexts τ → History τ editions H → SeesBetween a H → AreAudited a audits → FindNothing audits → Fit τ H (papers_of audits)
  all_fit τ a H [] texts history seen are nothing = (H, refl)
  all_fit τ a H (r ∷ audits) texts history seen are nothing =
      let p = r.papers in
      let w = run_fits one line E p.script p.report p.rates a r.after τ H texts history seen r.verdict are.0 nothing.0 in
      let next = run_seen one line E p.script p.report p.rates a r.after τ H texts history seen r.verdict are.0 nothing.0 w.0 w.1 in
      let rest = all_fit τ r.after w.0 audits texts (run_history E τ H history p w.0 w.1) next are.1 nothing.1 in
      (rest.0, (w.0, w.1, rest.1))

  none_found : (τ : Tariff) (a : Audit) (H K : Ledger) (audits : List AuditedRun) → IsOfTexts τ → History τ editions H → SeesBetween a H → AreAudited a audits → AllByRecursion (λ r. IsCutShort r.verdict → ⊥) audits
      → FitRuns τ H (papers_of audits) K → FindNothing audits
  none_found τ a H K [] texts history seen are uncut fit = tt
  none_found τ a H K (r ∷ audits) texts history seen are uncut fit =
      let p = r.papers in
      let nothing = run_found one line E p.script p.report p.rates a r.after τ H texts history seen r.verdict are.0 uncut.0 fit.0 fit.1 in
      let next = run_seen one line E p.script p.report p.rates a r.after τ H texts history seen r.verdict are.0 nothing fit.0 fit.1 in
      (nothing, none_found τ r.after fit.0 K audits texts (run_history E τ H history p fit.0 fit.1) next are.1 uncut.1 fit.2)

  -- THE LAW OF SEVERAL RUNS
  pub runs_exact : (start : Audit) (audits : List AuditedRun) → AreAudited start audits → AreExact start audits
  runs_exact start audits are = record {
    sound = λ nothing τ H texts history sees. all_fit τ start H audits texts history (between start H sees) are nothing;
    complete = λ uncut τ H texts history sees fit. none_found τ start H fit.0 audits texts history (between start H sees) are uncut fit.1;
  }
