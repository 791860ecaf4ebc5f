-- Several runs of all words, one after the other: what fits them all, and what their verdicts say together.
use Rattle.std.specs.Prelude.{◌≡◌, ◌⊎◌, ℕ, List, [], ◌∷◌, Option, Some}
use Rattle.std.specs.List.{AllByRecursion}
use Rattle.bench_base.specs.declared.ledger.Entry.TheVariants.{Begin}
use Rattle.bench_base.specs.Ledger.{Ledger}
use Rattle.ledger_moves.specs.Tariffs.{Tariff}
use Rattle.trace_bench.specs.Seeing.{Audit}
use Rattle.trace_runs.specs.Fitting.{IsCutShort}
use Rattle.trace_runs.specs.Runs.{Papers, FitsRun, FindsNothing as FindsNothingIn, AtStart}
use Rattle.trace_runs.specs.Verdicts.{Says, status_of}
use Rattle.trace_runs.specs.declared.{verdict.Ending.Ending, verdict.Verdict.Verdict}
use Rattle.line_extensions.specs.Desks.{World}
use Rattle.trace_extensions.specs.Fits.{FitsSo, FitsIfLawful, LawfulIfFits, IsOpen}
use Rattle.trace_extensions.specs.FitsStopped.{Agrees, ComesTo, FitsStopped, FitsIfStopped, IsUndecided, OwnStopped, SaysStopped, StoppedIfFits, StoppedInOwnIfFits, StopsAt, at_event, at_own_line, before_it}
use Rattle.trace_extensions.specs.Models.{Model}
use Rattle.trace_extensions.specs.Places.{Place}
use Rattle.trace_extensions.specs.declared.{papers.Reach.Reach, papers.SideVerdict.SideVerdict, papers.SideVerdict.TheVariants.Lawful}
use Rattle.trace_extensions.specs.Words.{Word, Beside, View, model_of, StartsWith, left_beside}

-- == runs that fit ==

-- the papers of a run of events alone, or of one under a word
pub data Run : Type 0 where
  Events : (p : Papers) → Run
  Under : (w : Word) (p : Papers) → Run

-- A run under a word fits over ledger H, with this kept beside it, to its end, and leaves K and that.
pub record EndsUnder (τ : Tariff) (H : Ledger) (k : Beside) (w : Word) (p : Papers) (K : Ledger) (l : Beside) : Type 0 where
  pub before : View w
  pub starts : StartsWith w k before
  pub end : Ending
  pub fits : FitsSo (model_of w) τ (Begin ∷ H) p.script p.report p.rates before (status_of end)
  pub ledger : K ≡ fits.run.did.behind.scene.ledger
  pub beside : l ≡ left_beside w k fits.run.did.behind.desk

-- it fits up to a stop, and that leaves K and this
pub record StopsUnder (τ : Tariff) (H : Ledger) (k : Beside) (w : Word) (p : Papers) (K : Ledger) (l : Beside) : Type 0 where
  pub before : View w
  pub starts : StartsWith w k before
  pub fits : FitsStopped (model_of w) (λ at line told L kept. StopsAt (model_of w) τ at line told L kept) τ (Begin ∷ H) p.script p.report p.rates before
  pub ledger : K ≡ fits.ledger
  pub beside : l ≡ left_beside w k fits.kept

-- to its end, or up to a stop
pub data FitsUnder (τ : Tariff) (H : Ledger) (k : Beside) (w : Word) (p : Papers) (K : Ledger) (l : Beside) : Type 0 where
  to_its_end : EndsUnder τ H k w p K l → FitsUnder τ H k w p K l
  to_its_stop : StopsUnder τ H k w p K l → FitsUnder τ H k w p K l

-- A RUN FITS over ledger H, with this kept beside it, and leaves K and that: one of events alone, or one under a word.
abbrev pub FitsOne : Tariff → Ledger → Beside → Run → Ledger → Beside → Type 0
FitsOne τ H k (Events p) K l = FitsRun τ H p K × (l ≡ k)
FitsOne τ H k (Under w p) K l = FitsUnder τ H k w p K l

-- RUNS FIT, one after the other: each fits over what the one before it left.
abbrev pub Fit : Tariff → Ledger → Beside → List Run → Type 0
Fit τ H k [] = Unit {0}
Fit τ H k (r ∷ runs) = (K : Ledger) × (l : Beside) × FitsOne τ H k r K l × Fit τ K l runs

-- == what is said of them ==

-- a run that was judged: what the extension had before it and after it, how far the run is said to have come, and the verdict
pub data Judged : Type 0 where
  EventsJudged : (p : Papers) (v : Verdict) → Judged
  UnderJudged : (w : Word) (p : Papers) (before after : View w) (reach : Option Reach) (v : SideVerdict) → Judged

-- a run under a word was judged so, by the contract of `judge_side`
pub record IsJudgedUnder (a : Audit) (k : Beside) (w : Word) (p : Papers) (before after : View w) (reach : Option Reach) (v : SideVerdict) (b : Audit)
    : Type 0 where
  pub starts : StartsWith w k before
  pub fits : FitsIfLawful (model_of w) (Some p.script) (Some p.report) p.rates before after a b v
  pub complete : LawfulIfFits (model_of w) (Some p.script) (Some p.report) p.rates before after a b v reach
  pub fits_stopped : FitsIfStopped (model_of w) (Some p.script) (Some p.report) p.rates before after a b v reach
  pub stops : StoppedIfFits (model_of w) (Some p.script) (Some p.report) p.rates before after a b v reach
  pub own_stops : StoppedInOwnIfFits (model_of w) (Some p.script) (Some p.report) p.rates before after a b v reach

-- an auditor that had this judged it so and has that then, by the contracts of `judge_next` and `judge_side`
abbrev pub IsJudged : Audit → Beside → Judged → Audit → Type 0
IsJudged a k (EventsJudged p v) b = Says v p.script p.report p.rates a b
IsJudged a k (UnderJudged w p x y reach v) b = IsJudgedUnder a k w p x y reach v b

abbrev pub beside_after : Beside → Judged → Beside
beside_after k (EventsJudged p v) = k
beside_after k (UnderJudged w p x y reach v) = left_beside w k y

abbrev pub run_of : Judged → Run
run_of (EventsJudged p v) = Events p
run_of (UnderJudged w p x y reach v) = Under w p

-- a run that was judged, and what the auditor had after it
pub record AuditedRun : Type 0 where
  pub judged : Judged
  pub after : Audit

-- they were judged one after the other
abbrev pub AreAudited : Audit → Beside → List AuditedRun → Type 0
AreAudited a k [] = Unit {0}
AreAudited a k (r ∷ audits) = IsJudged a k r.judged r.after × AreAudited r.after (beside_after k r.judged) audits

abbrev pub runs_of : List AuditedRun → List Run
runs_of [] = []
runs_of (r ∷ audits) = run_of r.judged ∷ runs_of audits

-- lawful or stopped
abbrev pub FindsNothing : Judged → Type 0
FindsNothing (EventsJudged p v) = FindsNothingIn v
FindsNothing (UnderJudged w p x y reach v) = ((end : Ending) × (v ≡ Lawful end)) ⊎ SaysStopped v

-- The verdict decides whether a run was stopped so. At an own line the run has to have come as far as the reach says; and before a line of which nothing
-- was begun, whatever line it is, no verdict does.
abbrev pub DecidesAt : {V : Type 0} (m : Model V) (τ : Tariff) (at : World Place V) (line told : List ℕ) (K : Ledger) (kept : V) → Option Reach
    → SideVerdict → StopsAt m τ at line told K kept → Type 0
DecidesAt m τ at line told K kept reach v (at_event stop) = IsOpen reach v → ⊥
DecidesAt m τ at line told K kept reach v (at_own_line stop) = Agrees m τ at line told K kept reach stop × (IsUndecided reach v → ⊥)
DecidesAt m τ at line told K kept reach v (before_it stop) = ⊥

abbrev pub DecidesUnder : (τ : Tariff) (H : Ledger) (k : Beside) (w : Word) (p : Papers) (K : Ledger) (l : Beside) → Option Reach → SideVerdict
    → FitsUnder τ H k w p K l → Type 0
DecidesUnder τ H k w p K l reach v (to_its_end ends) = IsOpen reach v → ⊥
DecidesUnder τ H k w p K l reach v (to_its_stop stops) =
    let f = stops.fits in DecidesAt (model_of w) τ f.behind f.line f.told f.ledger f.kept reach v f.stop

-- the verdict decides whether the run fits so
abbrev pub Decides : (τ : Tariff) (H : Ledger) (k : Beside) (K : Ledger) (l : Beside) → (r : Judged) → FitsOne τ H k (run_of r) K l → Type 0
Decides τ H k K l (EventsJudged p v) fits = IsCutShort v → ⊥
Decides τ H k K l (UnderJudged w p x y reach v) fits = DecidesUnder τ H k w p K l reach v fits

-- each verdict decides whether its run fits as it does here
abbrev pub AllDecide : (τ : Tariff) (H : Ledger) (k : Beside) → (audits : List AuditedRun) → Fit τ H k (runs_of audits) → Type 0
AllDecide τ H k [] fit = Unit {0}
AllDecide τ H k (r ∷ audits) fit = Decides τ H k fit.0 fit.1 r.judged fit.2 × AllDecide τ fit.0 fit.1 audits fit.3

-- SOME REACH SAYS how far a run came that was stopped at an own line: so the one that tries all misses none.
abbrev pub HasReach : Word → Type 0
HasReach w = (τ : Tariff) (at : World Place (View w)) (line told : List ℕ) (K : Ledger) (kept : View w)
    → (stop : OwnStopped (model_of w) τ at line told K kept) → (steps : Option ℕ) × ComesTo (model_of w) τ at line told K kept steps stop

-- RUNS OF ALL WORDS ARE JUDGED EXACTLY. If the verdicts find nothing, the runs fit. If the runs fit, and each verdict decides that, they find nothing.
pub record AreExact (start : Audit) (k : Beside) (audits : List AuditedRun) : Type 0 where
  pub sound : AllByRecursion (λ r. FindsNothing r.judged) audits → AtStart start (λ τ H. Fit τ H k (runs_of audits))
  pub complete : AtStart start (λ τ H. (fit : Fit τ H k (runs_of audits)) → AllDecide τ H k audits fit → AllByRecursion (λ r. FindsNothing r.judged) audits)
