-- Several runs, one after the other: what each leaves to the next, and what their verdicts say together.
use Rattle.std.specs.Prelude.{◌≡◌, ℕ, List, [], ◌∷◌, ◌++◌, map, Option}
use Rattle.std.specs.List.{AllByRecursion}
use Rattle.bench_base.specs.declared.{events.Event.Event, events.Reply.Reply, ledger.Entry.TheVariants.Begin}
use Rattle.bench_base.specs.Ledger.{Ledger, day_in}
use Rattle.bench_base.specs.Replies.{Did}
use Rattle.bench_base.specs.Rules.{todays_rules, editions}
use Rattle.bench_abstraction.specs.Tariff.{IsOfTexts}
use Rattle.ledger_moves.specs.Tariffs.{Tariff}
use Rattle.ledger_moves.specs.Histories.{History}
use Rattle.ledger_moves.specs.Moves.{plan}
use Rattle.bench.specs.Steps.{with_open}
use Rattle.line_extensions.specs.Trace.{TraceStep, done_in}
use Rattle.script_replay.specs.Trace.{ledger_after}
use Rattle.trace_bench.specs.Judging.{ledger_with, taken_by}
use Rattle.trace_bench.specs.Seeing.{Audit, Sees}
use Rattle.trace_bench.specs.Stopping.{MayBegin, IsInDoubt}
use Rattle.trace_runs.specs.Between.{SeesBetween}
use Rattle.trace_runs.specs.Fitting.{FitsToEnd, FitsStopped, rates_after, IsCutShort}
use Rattle.trace_runs.specs.Reads.{IsRead, OfTexts}
use Rattle.trace_runs.specs.Verdicts.{Says}
use Rattle.trace_runs.specs.declared.{verdict.Verdict.Verdict, verdict.Verdict.TheVariants.Lawful, verdict.Verdict.TheVariants.Stopped, verdict.Verdict.TheVariants.Wrong, verdict.Verdict.TheVariants.Forged, verdict.Verdict.TheVariants.Unkept, verdict.Verdict.TheVariants.More, verdict.Verdict.TheVariants.Memory, verdict.Verdict.TheVariants.Unread}

-- == runs that fit ==

-- the papers of a run
pub record Papers : Type 0 where
  pub script : List ℕ
  pub report : List ℕ
  pub rates : List ℕ

-- At ledger H, where these rates are left, the run was stopped at this event, and the report ends with these bytes of its line.
module _ (τ : Tariff) (H : Ledger) (e : Event) (left told : List ℕ) where
  -- the ledger with the commit of the event, if it has one, open: the next `up` of its node says whether it counts
  abbrev pub opened : Ledger
  opened = with_open (plan τ todays_rules H e (taken_by e (day_in H) Did left)).commit H

  -- WHAT A STOP LEAVES. A reply follows its event. So the event was done, with a reply whose line begins so, and leaves what it leaves with that reply.
  -- If it is in doubt whether it was done, its commit is open. (A bench leaves the same if it is stopped within an event: `after_stop`.)
  pub data StopLeaves (K : Ledger) : Type 0 where
    was_done : (reply : Reply) → MayBegin τ H e left told reply → (IsInDoubt τ H e left told → ⊥) → K ≡ ledger_with τ H e left told reply → StopLeaves K
    is_open : IsInDoubt τ H e left told → K ≡ opened → StopLeaves K

-- A RUN FITS over ledger H and leaves K. It begins there, and some steps fit its script and its report: to the end, or up to a stop.
pub data FitsRun (τ : Tariff) (H : Ledger) (p : Papers) (K : Ledger) : Type 0 where
  to_the_end : (trace : List TraceStep) → FitsToEnd τ (Begin ∷ H) p.script p.report p.rates trace → K ≡ ledger_after τ (Begin ∷ H) (done_in trace)
      → FitsRun τ H p K
  to_a_stop : (trace : List TraceStep) (fits : FitsStopped τ (Begin ∷ H) p.script p.report p.rates trace)
      → StopLeaves τ (ledger_after τ (Begin ∷ H) (done_in trace)) fits.event (rates_after p.rates (done_in trace)) fits.fits.told K → FitsRun τ H p K

-- RUNS FIT over ledger H, one after the other, and leave K: each fits over what the one before it left.
abbrev pub FitRuns : Tariff → Ledger → List Papers → Ledger → Type 0
FitRuns τ H [] K = K ≡ H
FitRuns τ H (p ∷ runs) K = (L : Ledger) × FitsRun τ H p L × FitRuns τ L runs K

-- whatever they leave
abbrev pub Fit : Tariff → Ledger → List Papers → Type 0
Fit τ H runs = (K : Ledger) × FitRuns τ H runs K

-- == what is said of them ==

-- P of each history that the auditor had before the first run, by a tariff of texts
abbrev pub AtStart : Audit → (Tariff → Ledger → Type 0) → Type 0
AtStart start P = (τ : Tariff) (H : Ledger) → IsOfTexts τ → History τ editions H → Sees start H → P τ H

-- lawful, or stopped
abbrev pub FindsNothing : Verdict → Type 0
FindsNothing (Lawful end) = Unit {0}
FindsNothing (Stopped n) = Unit {0}
FindsNothing (Wrong n due) = ⊥
FindsNothing (Forged n) = ⊥
FindsNothing (Unkept n) = ⊥
FindsNothing (More n end) = ⊥
FindsNothing Memory = ⊥
FindsNothing (Unread input n) = ⊥

-- THE RUNS SO FAR, judged by an auditor that had this at their start: they fit, and whatever they may have left the auditor sees now.
pub record HasJudged (start : Audit) (runs : List Papers) (now : Audit) : Type 0 where
  pub fit : AtStart start (λ τ H. Fit τ H runs)
  pub sees : AtStart start (λ τ H. (K : Ledger) → FitRuns τ H runs K → SeesBetween now K)

-- they don't fit
abbrev pub FitNot : Audit → List Papers → Type 0
FitNot start runs = AtStart start (λ τ H. Fit τ H runs → ⊥)

-- What the verdict on the last of these runs says of them all: they fit, if it finds nothing; they don't, if it is a finding; and nothing, if it was
-- cut short.
abbrev pub JudgesSo : Verdict → Audit → List Papers → Audit → Type 0
JudgesSo (Lawful end) start runs now = HasJudged start runs now
JudgesSo (Stopped n) start runs now = HasJudged start runs now
JudgesSo (Wrong n due) start runs now = FitNot start runs
JudgesSo (Forged n) start runs now = FitNot start runs
JudgesSo (More n end) start runs now = FitNot start runs
JudgesSo (Unkept n) start runs now = Unit {0}
JudgesSo Memory start runs now = Unit {0}
JudgesSo (Unread input n) start runs now = Unit {0}

-- so it is after the next run, whatever runs were judged before
abbrev pub JudgesNext : Verdict → Papers → Audit → Audit → Type 0
JudgesNext v p old new = (start : Audit) (runs : List Papers) → HasJudged start runs old → JudgesSo v start (runs ++ p ∷ []) new

-- the same, of the bytes that were read of its script and its report, whatever follows them
pub record JudgesNextOf (v : Verdict) (script0 script1 report0 report1 : Option (List ℕ)) (rates : List ℕ) (old new : Audit) : Type 0 where
  pub script : IsRead script0 script1
  pub report : IsRead report0 report1
  pub so : OfTexts script (λ text lines. OfTexts report (λ answers told.
      JudgesNext v (record { script = text; report = answers; rates = rates }) old new))

-- == the law of several runs ==

-- a run that was audited: its papers, the verdict, and what the auditor had after it
pub record AuditedRun : Type 0 where
  pub papers : Papers
  pub verdict : Verdict
  pub after : Audit

-- they were audited one after the other, the first by an auditor that had this
abbrev pub AreAudited : Audit → List AuditedRun → Type 0
AreAudited a [] = Unit {0}
AreAudited a (r ∷ audits) = Says r.verdict r.papers.script r.papers.report r.papers.rates a r.after × AreAudited r.after audits

abbrev pub papers_of : List AuditedRun → List Papers
papers_of audits = map (λ (r : AuditedRun). r.papers) audits

-- SEVERAL RUNS ARE JUDGED EXACTLY. If each verdict is lawful or stopped, the runs fit. If they fit, and none was cut short, each verdict is lawful
-- or stopped.
pub record AreExact (start : Audit) (audits : List AuditedRun) : Type 0 where
  pub sound : AllByRecursion (λ r. FindsNothing r.verdict) audits → AtStart start (λ τ H. Fit τ H (papers_of audits))
  pub complete : AllByRecursion (λ r. IsCutShort r.verdict → ⊥) audits
      → AtStart start (λ τ H. Fit τ H (papers_of audits) → AllByRecursion (λ r. FindsNothing r.verdict) audits)
