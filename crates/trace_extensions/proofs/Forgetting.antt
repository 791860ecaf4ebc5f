-- A model that forgets what it said last: what it does for a line is the same from each of two views that are alike.
use Rattle.std.proofs.Common.{◌≡◌, ℕ, List, [], ◌∷◌, Option, Some, None, refl, sym, ◌∙◌, ap, subst}
use Rattle.bench_base.specs.Ledger.{Ledger}
use Rattle.ledger_moves.specs.Tariffs.{Tariff}
use Rattle.node_turns.specs.declared.turn.Turn.{Turn}
use Rattle.line_runs.specs.declared.status.Status.{Status}
use Rattle.line_extensions.specs.Trace.{StepRecord, Skipped, Did}
use Rattle.line_extensions.specs.Desks.{World, world, Asks, DidOwn, DoesOne, Does}
use Rattle.line_extensions.specs.SideTrace.{SideStep, Plain, Own, Broken}
use Rattle.line_extensions.specs.declared.{extension.Next.Next, extension.Next.TheVariants.Step, extension.Next.TheVariants.Say}
use Rattle.trace_runs.specs.Fitting.{BeginsTold}
use Rattle.trace_runs.specs.Runs.{StopLeaves}
use Rattle.trace_extensions.specs.Fits.{FitsSo}
use Rattle.trace_extensions.specs.FitsStopped.{AgreedStop, ComesTo, EventStopped, OwnStopped, not_begun, all_of_it, part_of_it, FitsStopped}
use Rattle.trace_extensions.specs.Models.{Model, by_model}
use Rattle.trace_extensions.specs.Places.{Place, place, MayStep}
use Rattle.trace_extensions.specs.declared.papers.Reach.{Reach}

pub record Forgets {V : Type 0} (m : Model V) (Like : V → V → Type 0) : Type 0 where
  pub same : (a : V) → Like a a
  pub passes : (a b : V) (line : List ℕ) → Like a b → m.Passes a line → m.Passes b line
  pub sees : (a b c : V) (turn : Turn) → Like a b → m.Sees a turn c → (d : V) × m.Sees b turn d × Like c d
  pub begins : (a b c : V) (line : List ℕ) (next : Next) → Like a b → m.Begins a line next c → m.Begins b line next c

module _ {V : Type 0} (m : Model V) (Like : V → V → Type 0) (f : Forgets m Like) where
  module _ {B : Type 0} (Steps : B → B → StepRecord → Turn → Type 0) where
    own_does : (s e t : World B V) (line : List ℕ) (steps : List StepRecord) (last : Next) → s.scene ≡ t.scene → Like s.desk t.desk
        → DidOwn (by_model m) Steps s e line steps last → DidOwn (by_model m) Steps t e line steps last
    own_does s e t line steps last at like did = record {
      first = did.first;
      desk = did.desk;
      begins = f.begins s.desk t.desk did.desk line did.first like did.begins;
      asks = subst (λ (x : B). Asks (by_model m) Steps (world x did.desk) e did.first steps last) at did.asks;
    }

    abbrev Also : World B V → World B V → (World B V → Type 0) → Type 0
    Also t e P = (u : World B V) × P u × (e.scene ≡ u.scene) × Like e.desk u.desk

    one_does : (s e t : World B V) (x : SideStep (List ℕ)) → s.scene ≡ t.scene → Like s.desk t.desk → DoesOne (by_model m) Steps s e x
        → Also t e (λ u. DoesOne (by_model m) Steps t u x)
    one_does s e t (Plain (Skipped line)) at like same =
        (t, refl, ap (λ (z : World B V). z.scene) same ∙ at, subst (λ (z : World B V). Like z.desk t.desk) (sym same) like)
    one_does s e t (Plain (Did line d)) at like did =
        let w = f.sees s.desk t.desk e.desk did.turn like did.sees in (
          world e.scene w.0,
          record { passes = f.passes s.desk t.desk line like did.passes; turn = did.turn; did = subst (λ (z : B). Steps z e.scene d did.turn) at did.did; sees = w.1 },
          refl,
          w.2,
        )
    one_does s e t (Own line own steps texts) at like did =
        (e, record { did = own_does s e t own steps _ at like did.did; answer = did.answer }, refl, f.same e.desk)
    one_does s e t (Broken line own steps) at like did = (e, own_does s e t own steps _ at like did, refl, f.same e.desk)

    all_do : (s e t : World B V) (trace : List (SideStep (List ℕ))) → s.scene ≡ t.scene → Like s.desk t.desk → Does (by_model m) Steps s e trace
        → Also t e (λ u. Does (by_model m) Steps t u trace)
    all_do s e t [] at like same = (t, refl, ap (λ (z : World B V). z.scene) same ∙ at, subst (λ (z : World B V). Like z.desk t.desk) (sym same) like)
    all_do s e t (x ∷ rest) at like did =
        let one = one_does s did.0 t x at like did.1 in
        let more = all_do did.0 e one.0 rest one.2 one.3 did.2 in
        (more.0, (one.0, one.1, more.1), more.2, more.3)

  -- so a run that fits from the one fits from the other, with the same ledger behind it
  pub fits_from : (τ : Tariff) (H : Ledger) (script report rates : List ℕ) (v w : V) (status : Status) → Like v w → (fits : FitsSo m τ H script report rates v status)
      → (g : FitsSo m τ H script report rates w status) × (fits.run.did.behind.scene ≡ g.run.did.behind.scene) × Like fits.run.did.behind.desk g.run.did.behind.desk
  fits_from τ H script report rates v w status like fits =
      let run = fits.run in
      let also = all_do (MayStep τ) (world (place H rates) v) run.did.behind (world (place H rates) w) _ refl like run.did.does in (
        record {
          left = fits.left;
          run = record {
            trace = run.trace;
            each = run.each;
            go_on = run.go_on;
            rest = run.rest;
            done = run.done;
            text = run.text;
            few = run.few;
            ends = run.ends;
            consumed = run.consumed;
            appended = run.appended;
            did = record { behind = also.0; does = also.1; texts = run.did.texts };
          };
        },
        also.2,
        also.3,
      )

  -- == a run that was stopped ==

  module _ (τ : Tariff) (s t : World Place V) (line told : List ℕ) (L : Ledger) (kept : V) (at : s.scene ≡ t.scene) (like : Like s.desk t.desk) where
    -- the same stop, from the other view
    abbrev Too : (World Place V → List ℕ → List ℕ → Ledger → V → Type 0) → Type 0
    Too AtLine = (held : V) × AtLine t line told L held × Like kept held

    pub event_at : EventStopped m τ s line told L kept → Too (λ at line told L kept. EventStopped m τ at line told L kept)
    event_at x = (
      t.desk,
      record {
        event = x.event;
        is = x.is;
        passes = f.passes s.desk t.desk line like x.passes;
        begins = subst (λ (p : Place). BeginsTold τ p.ledger p.left x.event told) at x.begins;
        leaves = subst (λ (p : Place). StopLeaves τ p.ledger x.event p.left told L) at x.leaves;
        stays = refl;
      },
      subst (λ (v : V). Like v t.desk) (sym x.stays) like,
    )

    own_at : OwnStopped m τ s line told L kept → Too (λ at line told L kept. OwnStopped m τ at line told L kept)
    own_at (not_begun is x) = (
      t.desk,
      not_begun is (record {
        first = x.first;
        desk = x.desk;
        begins = f.begins s.desk t.desk x.desk line x.first like x.begins;
        silent = x.silent;
        ledger = x.ledger ∙ ap (λ (p : Place). p.ledger) at;
        stays = refl;
      }),
      subst (λ (v : V). Like v t.desk) (sym x.stays) like,
    )
    own_at (all_of_it is x) = (
      kept,
      all_of_it is (record {
        steps = x.steps;
        behind = x.behind;
        did = own_does (MayStep τ) s x.behind t line x.steps Say at like x.did;
        cut = x.cut;
        ledger = x.ledger;
        keeps = x.keeps;
      }),
      f.same kept,
    )
    own_at (part_of_it is x) = (
      kept,
      part_of_it is (record {
        steps = x.steps;
        behind = x.behind;
        event = x.event;
        did = own_does (MayStep τ) s x.behind t line x.steps (Step x.event) at like x.did;
        silent = x.silent;
        leaves = x.leaves;
        keeps = x.keeps;
      }),
      f.same kept,
    )

    -- it came as far
    comes_at : (steps : Option ℕ) (stop : OwnStopped m τ s line told L kept) → ComesTo m τ s line told L kept steps stop → (w : OwnStopped m τ t line told L (own_at stop).0) × ComesTo m τ t line told L (own_at stop).0 steps w
    unfolding own_at
    comes_at None (not_begun is x) comes = ((own_at (not_begun is x)).1, tt)
    comes_at None (all_of_it is x) comes = absurd comes
    comes_at None (part_of_it is x) comes = absurd comes
    comes_at (Some count) (not_begun is x) comes = absurd comes
    comes_at (Some count) (all_of_it is x) comes = ((own_at (all_of_it is x)).1, comes)
    comes_at (Some count) (part_of_it is x) comes = ((own_at (part_of_it is x)).1, comes)

    pub agreed_at : (reach : Option Reach) → AgreedStop m τ s line told L kept reach → Too (λ at line told L kept. AgreedStop m τ at line told L kept reach)
    agreed_at None (stop, agrees) = let w = own_at stop in (w.0, (w.1, tt), w.2)
    agreed_at (Some reach) (stop, agrees) = let w = own_at stop in (w.0, comes_at reach.steps stop agrees, w.2)

  -- so a run that may have been stopped so from the one may from the other, with the same ledger behind it
  pub stopped_from : (AtLine : World Place V → List ℕ → List ℕ → Ledger → V → Type 0) (τ : Tariff) (H : Ledger) (script report rates : List ℕ) (v w : V)
      → ((s t : World Place V) (line told : List ℕ) (L : Ledger) (kept : V) → s.scene ≡ t.scene → Like s.desk t.desk → AtLine s line told L kept → (held : V) × AtLine t line told L held × Like kept held)
      → Like v w → (fits : FitsStopped m AtLine τ H script report rates v) → (g : FitsStopped m AtLine τ H script report rates w) × (fits.ledger ≡ g.ledger) × Like fits.kept g.kept
  stopped_from AtLine τ H script report rates v w too like fits =
      let also = all_do (MayStep τ) (world (place H rates) v) fits.behind (world (place H rates) w) fits.trace refl like fits.does in
      let stop = too fits.behind also.0 fits.line fits.told fits.ledger fits.kept also.2 also.3 fits.stop in (
        record {
          trace = fits.trace;
          each = fits.each;
          go_on = fits.go_on;
          few = fits.few;
          behind = also.0;
          does = also.1;
          texts = fits.texts;
          line = fits.line;
          short = fits.short;
          rest = fits.rest;
          script_is = fits.script_is;
          told = fits.told;
          report_is = fits.report_is;
          ledger = fits.ledger;
          kept = stop.0;
          stop = stop.1;
        },
        refl,
        stop.2,
      )
