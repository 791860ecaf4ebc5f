-- Several runs of all words, one after the other.
use Rattle.std.proofs.Common.{◌≡◌, ℕ, inl, inr, List, [], ◌∷◌, Option, refl, sym, ◌∙◌, ap, subst}
use Rattle.std.specs.List.{AllByRecursion}
use Rattle.bench_base.specs.declared.{events.Reply.Reply, ledger.Entry.TheVariants.Begin}
use Rattle.bench_base.specs.Ledger.{Ledger}
use Rattle.bench_base.specs.Rules.{editions}
use Rattle.bench_abstraction.specs.Tariff.{IsOfTexts}
use Rattle.centre_statement.specs.Desk.{View as StatementView}
use Rattle.ledger_terms.specs.Editions.{Editions}
use Rattle.ledger_moves.specs.Tariffs.{Tariff}
use Rattle.ledger_moves.specs.Histories.{History, begins}
use Rattle.script_text.specs.Texts.{text_of, IsWholeReply, told}
use Rattle.line_runs.specs.Lines.{IsOneLine}
use Rattle.line_extensions.specs.Desks.{World}
use Rattle.trace_bench.specs.Seeing.{Audit, Sees}
use Rattle.trace_runs.specs.Between.{SeesBetween}
use Rattle.trace_runs.specs.Runs.{Papers}
use Rattle.trace_runs.specs.Verdicts.{status_of}
use Rattle.trace_runs.specs.declared.{verdict.Ending.Ending}
use Rattle.trace_runs.proofs.Alike.{between}
use Rattle.trace_runs.proofs.EachRun.{run_history, run_fits, run_seen, run_found}
use Rattle.trace_extensions.specs.Places.{Place}
use Rattle.trace_extensions.specs.Models.{Model}
use Rattle.trace_extensions.specs.FitsStopped.{AgreedStop, EventStopped, SaysStopped, StopsAt, at_event, at_own_line, before_it, FitsStopped}
use Rattle.trace_extensions.specs.ClaimsModel.{Standing, claims_model}
use Rattle.trace_extensions.specs.DepartmentsModel.{Kept, departments_model}
use Rattle.trace_extensions.specs.Fits.{FitsSo, IsLeftSo}
use Rattle.trace_extensions.specs.ManifestModel.{ManifestView, manifest_model}
use Rattle.trace_extensions.specs.declared.{papers.Reach.Reach, papers.SideVerdict.SideVerdict}
use Rattle.trace_extensions.specs.Words.{Word, OfClaims, OfDepartments, OfManifests, OfStatements, Beside, View, model_of, StartsWith, left_beside}
use Rattle.trace_extensions.specs.Runs.{FitsOne, Fit, Judged, EventsJudged, UnderJudged, IsJudged, beside_after, run_of, AuditedRun, AreAudited, runs_of, FindsNothing, Decides, AreExact, StopsUnder, to_its_end, to_its_stop, IsJudgedUnder, DecidesAt, AllDecide}
use Rattle.trace_extensions.proofs.Forgetting.{Forgets, fits_from, event_at, agreed_at, stopped_from}
use Rattle.trace_extensions.proofs.StopHistories.{stop_history}
use Rattle.trace_extensions.proofs.Said.{claims_forget, departments_forget, manifests_forget}

-- == a run fits from each view that it may start with ==

-- a run fits from this view, and leaves the ledger K and this beside it
abbrev FitsFrom : Tariff → Ledger → Beside → (w : Word) → Papers → (x : View w) → Ending → Ledger → Beside → Type 0
FitsFrom τ H k w p x end K l =
    (fits : FitsSo (model_of w) τ (Begin ∷ H) p.script p.report p.rates x (status_of end))
    × (K ≡ fits.run.did.behind.scene.ledger) × (l ≡ left_beside w k fits.run.did.behind.desk)

from_each : (τ : Tariff) (H : Ledger) (k : Beside) (w : Word) (p : Papers) (x y : View w) (end : Ending) (K : Ledger) (l : Beside) → StartsWith w k x → StartsWith w k y
    → FitsFrom τ H k w p x end K l → FitsFrom τ H k w p y end K l
from_each τ H k OfClaims p x y end K l first second from =
    let g = fits_from claims_model (λ (a b : Standing). a.rows ≡ b.rows) claims_forget τ (Begin ∷ H) p.script p.report p.rates x y (status_of end) (sym first ∙ second) from.0 in
    (g.0, from.1 ∙ ap (λ z. z.ledger) g.1, from.2 ∙ ap (λ rows. record k { claims = rows }) g.2)
from_each τ H k OfDepartments p x y end K l first second from =
    let g = fits_from departments_model (λ (a b : Kept). a.rows ≡ b.rows) departments_forget τ (Begin ∷ H) p.script p.report p.rates x y (status_of end) (sym first ∙ second) from.0 in
    (g.0, from.1 ∙ ap (λ z. z.ledger) g.1, from.2 ∙ ap (λ rows. record k { departments = rows }) g.2)
from_each τ H k OfManifests p x y end K l first second from =
    let g = fits_from manifest_model (λ (a b : ManifestView). a.listing ≡ b.listing) manifests_forget τ (Begin ∷ H) p.script p.report p.rates x y (status_of end) (sym first ∙ second) from.0 in
    (g.0, from.1 ∙ ap (λ z. z.ledger) g.1, from.2)
from_each τ H k OfStatements p x y end K l first second from =
    subst (λ (z : StatementView). FitsFrom τ H k OfStatements p z end K l) (sym first ∙ second) from

-- == a run that was stopped, from each view that it may start with ==

-- what is alike is kept alike beside the bench
alike_beside : (w : Word) (k : Beside) (y z : View w) → (model_of w).Alike y z → left_beside w k y ≡ left_beside w k z
alike_beside OfClaims k y z like = ap (λ rows. record k { claims = rows }) like
alike_beside OfDepartments k y z like = ap (λ rows. record k { departments = rows }) like
alike_beside OfManifests k y z like = refl
alike_beside OfStatements k y z like = refl

-- a way to be stopped at a line, which is the same from views that are alike
record StopKind (τ : Tariff) : Type 1 where
  S : {V : Type 0} → Model V → World Place V → List ℕ → List ℕ → Ledger → V → Type 0
  too : {V : Type 0} (m : Model V) (Like : V → V → Type 0) → Forgets m Like → (s t : World Place V) (line told : List ℕ) (L : Ledger) (kept : V) → s.scene ≡ t.scene → Like s.desk t.desk → S m s line told L kept
      → (held : V) × S m t line told L held × Like kept held

abbrev event_kind : (τ : Tariff) → StopKind τ
event_kind τ = record {
  S = λ m at line told L kept. EventStopped m τ at line told L kept;
  too = λ m Like f s t line told L kept at like x. event_at m Like f τ s t line told L kept at like x;
}

abbrev own_kind : Option Reach → (τ : Tariff) → StopKind τ
own_kind reach τ = record {
  S = λ m at line told L kept. AgreedStop m τ at line told L kept reach;
  too = λ m Like f s t line told L kept at like x. agreed_at m Like f τ s t line told L kept at like reach x;
}

module _ (τ : Tariff) (kind : StopKind τ) (H : Ledger) (k : Beside) (p : Papers) where
  abbrev Stops : (w : Word) → View w → Type 0
  Stops w x = FitsStopped (model_of w) (λ at line told L kept. kind.S (model_of w) at line told L kept) τ (Begin ∷ H) p.script p.report p.rates x

  abbrev StopsFrom : (w : Word) (x y : View w) → Stops w x → Type 0
  StopsFrom w x y fits = (g : Stops w y) × (fits.ledger ≡ g.ledger) × (left_beside w k fits.kept ≡ left_beside w k g.kept)

  stops_from : (w : Word) (x y : View w) → StartsWith w k x → StartsWith w k y → (fits : Stops w x) → StopsFrom w x y fits
  stops_from OfClaims x y first second fits =
      let g = stopped_from claims_model (λ (a b : Standing). a.rows ≡ b.rows) claims_forget (λ at line told L kept. kind.S claims_model at line told L kept) τ (Begin ∷ H) p.script p.report p.rates x y
      (λ s t line told L kept at like stop. kind.too claims_model (λ (a b : Standing). a.rows ≡ b.rows) claims_forget s t line told L kept at like stop) (sym first ∙ second) fits in
      (g.0, g.1, ap (λ rows. record k { claims = rows }) g.2)
  stops_from OfDepartments x y first second fits =
      let g = stopped_from departments_model (λ (a b : Kept). a.rows ≡ b.rows) departments_forget (λ at line told L kept. kind.S departments_model at line told L kept) τ (Begin ∷ H) p.script p.report p.rates x y
      (λ s t line told L kept at like stop. kind.too departments_model (λ (a b : Kept). a.rows ≡ b.rows) departments_forget s t line told L kept at like stop) (sym first ∙ second) fits in
      (g.0, g.1, ap (λ rows. record k { departments = rows }) g.2)
  stops_from OfManifests x y first second fits =
      let g = stopped_from manifest_model (λ (a b : ManifestView). a.listing ≡ b.listing) manifests_forget (λ at line told L kept. kind.S manifest_model at line told L kept) τ (Begin ∷ H) p.script p.report p.rates x y
      (λ s t line told L kept at like stop. kind.too manifest_model (λ (a b : ManifestView). a.listing ≡ b.listing) manifests_forget s t line told L kept at like stop) (sym first ∙ second) fits in
      (g.0, g.1, refl)
  stops_from OfStatements x y first second fits = subst (λ (z : StatementView). StopsFrom OfStatements x z fits) (sym first ∙ second) (fits, refl, refl)

-- the same run, by what kind of stop it was
abbrev with_stop : {V : Type 0} (m : Model V) (P Q : World Place V → List ℕ → List ℕ → Ledger → V → Type 0) (τ : Tariff) (H : Ledger) (script report rates : List ℕ) (v : V) (fits : FitsStopped m P τ H script report rates v)
    → Q fits.behind fits.line fits.told fits.ledger fits.kept → FitsStopped m Q τ H script report rates v
with_stop m P Q τ H script report rates v fits stop = record {
  trace = fits.trace;
  each = fits.each;
  go_on = fits.go_on;
  few = fits.few;
  behind = fits.behind;
  does = fits.does;
  texts = fits.texts;
  line = fits.line;
  short = fits.short;
  rest = fits.rest;
  script_is = fits.script_is;
  told = fits.told;
  report_is = fits.report_is;
  ledger = fits.ledger;
  kept = fits.kept;
  stop = stop;
}

module _ (one : (x y : Reply) → IsWholeReply x → IsWholeReply y → text_of x ≡ text_of y → told x ≡ told y) (line : (r : Reply) → IsWholeReply r → IsOneLine (text_of r)) (E : Editions editions) where
  -- what a run leaves is a history that the auditor sees
  record Leaves (τ : Tariff) (b : Audit) (K : Ledger) (k l : Beside) (r : Judged) : Type 0 where
    pub history : History τ editions K
    pub sees : SeesBetween b K
    pub beside : l ≡ beside_after k r

  module _ (τ : Tariff) (H : Ledger) (texts : IsOfTexts τ) (history : History τ editions H) (a b : Audit) (seen : SeesBetween a H) where
    -- == one run ==

    left_so : (k l : Beside) (w : Word) (p : Papers) (x y : View w) (reach : Option Reach) (v : SideVerdict) (K : Ledger) (end : Ending)
        (fits : FitsSo (model_of w) τ (Begin ∷ H) p.script p.report p.rates x (status_of end))
        → K ≡ fits.run.did.behind.scene.ledger → l ≡ left_beside w k fits.run.did.behind.desk → IsLeftSo τ b y fits.run.did.behind → Leaves τ b K k l (UnderJudged w p x y reach v)
    left_so k l w p x y reach v K end fits ledger beside left = record {
      history = subst (λ (X : Ledger). History τ editions X) (sym ledger) left.history;
      sees = between b K (subst (λ (X : Ledger). Sees b X) (sym ledger) left.sees);
      beside = beside ∙ ap (λ (z : View w). left_beside w k z) left.kept;
    }

    one_fits : (k : Beside) (r : Judged) → IsJudged a k r b → FindsNothing r → (K : Ledger) × (l : Beside) × FitsOne τ H k (run_of r) K l × Leaves τ b K k l r
    one_fits k (EventsJudged p v) says nothing =
        let w = run_fits one line E p.script p.report p.rates a b τ H texts history seen v says nothing in (
          w.0,
          k,
          (w.1, refl),
          record {
            history = run_history E τ H history p w.0 w.1;
            sees = run_seen one line E p.script p.report p.rates a b τ H texts history seen v says nothing w.0 w.1;
            beside = refl;
          },
        )
    one_fits k (UnderJudged w p x y reach v) judged (inl nothing) =
        let s = judged.fits nothing.0 nothing.1 τ H texts history seen in
        let K = s.0.run.did.behind.scene.ledger in
        let l = left_beside w k s.0.run.did.behind.desk in (
          K,
          l,
          to_its_end (record { before = x; starts = judged.starts; end = nothing.0; fits = s.0; ledger = refl; beside = refl }),
          left_so k l w p x y reach v K nothing.0 s.0 refl refl s.1,
        )
    one_fits k (UnderJudged w p x y reach v) judged (inr stopped) =
        let s = judged.fits_stopped stopped τ H texts history seen in (
          s.0.ledger,
          left_beside w k s.0.kept,
          to_its_stop (record { before = x; starts = judged.starts; fits = s.0; ledger = refl; beside = refl }),
          record { history = s.1; sees = s.2; beside = sym (alike_beside w k y s.0.kept s.3) },
        )

    -- a run under a word that was stopped
    module _ (k : Beside) (w : Word) (p : Papers) (x y : View w) (reach : Option Reach) (v : SideVerdict) (judged : IsJudgedUnder a k w p x y reach v b) (K : Ledger) (l : Beside) (stops : StopsUnder τ H k w p K l) where
      stop_left : (L : Ledger) (kept : View w) → SaysStopped v → SeesBetween b L → (model_of w).Alike y kept → stops.fits.ledger ≡ L → left_beside w k stops.fits.kept ≡ left_beside w k kept
          → FindsNothing (UnderJudged w p x y reach v) × Leaves τ b K k l (UnderJudged w p x y reach v)
      stop_left L kept is sees like ledger beside = (
        inr is,
        record {
          history = subst (λ (X : Ledger). History τ editions X) (sym stops.ledger) (stop_history τ (model_of w) (Begin ∷ H) p.script p.report p.rates stops.before (begins history) stops.fits);
          sees = subst (λ (X : Ledger). SeesBetween b X) (sym (stops.ledger ∙ ledger)) sees;
          beside = stops.beside ∙ beside ∙ sym (alike_beside w k y kept like);
        },
      )

      found_stop : (stop : StopsAt (model_of w) τ stops.fits.behind stops.fits.line stops.fits.told stops.fits.ledger stops.fits.kept) → DecidesAt (model_of w) τ stops.fits.behind stops.fits.line stops.fits.told stops.fits.ledger stops.fits.kept reach v stop
          → FindsNothing (UnderJudged w p x y reach v) × Leaves τ b K k l (UnderJudged w p x y reach v)
      found_stop (at_event event) closed =
          let g = stops_from τ (event_kind τ) H k p w stops.before x stops.starts judged.starts
          (with_stop (model_of w) _ (λ at line told L kept. EventStopped (model_of w) τ at line told L kept) τ (Begin ∷ H) p.script p.report p.rates stops.before stops.fits event) in
          elim (judged.stops τ H texts history seen g.0) [
            | inl told ↦ stop_left g.0.ledger g.0.kept (told.0, inl told.1) told.2 told.3 g.1 g.2
            | inr is_open ↦ absurd (closed is_open)
          ]
      found_stop (at_own_line own) closed =
          let g = stops_from τ (own_kind reach τ) H k p w stops.before x stops.starts judged.starts
          (with_stop (model_of w) _ (λ at line told L kept. AgreedStop (model_of w) τ at line told L kept reach) τ (Begin ∷ H) p.script p.report p.rates stops.before stops.fits (own, closed.0)) in
          elim (judged.own_stops τ H texts history seen g.0) [
            | inl told ↦ stop_left g.0.ledger g.0.kept told.0 told.1 told.2 g.1 g.2
            | inr undecided ↦ absurd (closed.1 undecided)
          ]
      found_stop (before_it none) closed = absurd closed

    one_found : (k : Beside) (r : Judged) → IsJudged a k r b → (K : Ledger) (l : Beside) (fits : FitsOne τ H k (run_of r) K l) → Decides τ H k K l r fits → FindsNothing r × Leaves τ b K k l r
    one_found k (EventsJudged p v) says K l fits closed =
        let nothing = run_found one line E p.script p.report p.rates a b τ H texts history seen v says closed K fits.0 in (
          nothing,
          record {
            history = run_history E τ H history p K fits.0;
            sees = run_seen one line E p.script p.report p.rates a b τ H texts history seen v says nothing K fits.0;
            beside = fits.1;
          },
        )
    one_found k (UnderJudged w p x y reach v) judged K l (to_its_end fits) closed =
        let g = from_each τ H k w p fits.before x fits.end K l fits.starts judged.starts (fits.fits, fits.ledger, fits.beside) in
        elim (judged.complete fits.end τ H texts history seen g.0) [
          | inl found ↦ (inl (fits.end, found.0), left_so k l w p x y reach v K fits.end g.0 g.1 g.2 found.1)
          | inr left_open ↦ absurd (closed left_open)
        ]
    one_found k (UnderJudged w p x y reach v) judged K l (to_its_stop stops) closed = found_stop k w p x y reach v judged K l stops stops.fits.stop closed

  -- == all runs ==

  abbrev FindNothing : List AuditedRun → Type 0
  FindNothing audits = AllByRecursion (λ r. FindsNothing r.judged) audits

  all_fit : (τ : Tariff) (a : Audit) (H : Ledger) (k l : Beside) (audits : List AuditedRun) → IsOfTexts τ → History τ editions H → SeesBetween a H → l ≡ k → AreAudited a k audits → FindNothing audits
      → Fit τ H l (runs_of audits)
  all_fit τ a H k l [] texts history seen same are nothing = tt
  all_fit τ a H k l (r ∷ audits) texts history seen same are nothing =
      let w = one_fits τ H texts history a r.after seen k r.judged are.0 nothing.0 in
      let rest = all_fit τ r.after w.0 (beside_after k r.judged) w.1 audits texts w.3.history w.3.sees w.3.beside are.1 nothing.1 in
      subst (λ (m : Beside). Fit τ H m (runs_of (r ∷ audits))) (sym same) (w.0, w.1, w.2, rest)

  none_found : (τ : Tariff) (a : Audit) (H : Ledger) (k l : Beside) (audits : List AuditedRun) → IsOfTexts τ → History τ editions H → SeesBetween a H → l ≡ k → AreAudited a k audits
      → (fit : Fit τ H l (runs_of audits)) → AllDecide τ H l audits fit → FindNothing audits
  none_found τ a H k l [] texts history seen same are fit closed = tt
  none_found τ a H k l (r ∷ audits) texts history seen same are fit closed =
      let f = subst (λ (m : Beside). (x : Fit τ H m (runs_of (r ∷ audits))) × AllDecide τ H m (r ∷ audits) x) same (fit, closed) in
      let w = one_found τ H texts history a r.after seen k r.judged are.0 f.0.0 f.0.1 f.0.2 f.1.0 in
      (w.0, none_found τ r.after f.0.0 (beside_after k r.judged) f.0.1 audits texts w.1.history w.1.sees w.1.beside are.1 f.0.3 f.1.1)

  -- THE LAW OF SEVERAL RUNS OF ALL WORDS
  pub words_exact : (start : Audit) (k : Beside) (audits : List AuditedRun) → AreAudited start k audits → AreExact start k audits
  words_exact start k audits are = record {
    sound = λ nothing τ H texts history sees. all_fit τ start H k k audits texts history (between start H sees) refl are nothing;
    complete = λ τ H texts history sees fit closed. none_found τ start H k k audits texts history (between start H sees) refl are fit closed;
  }
