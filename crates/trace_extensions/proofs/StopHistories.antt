-- What a run leaves that was stopped is a history.
use Rattle.std.proofs.Common.{inl, inr, ℕ, List, [], ◌∷◌, sym, subst}
use Rattle.bench_base.specs.declared.events.Event.{Event}
use Rattle.bench_base.specs.Events.{IsWholeEvent}
use Rattle.bench_base.specs.Ledger.{Ledger}
use Rattle.bench_base.specs.Rules.{editions}
use Rattle.ledger_moves.specs.Tariffs.{Tariff}
use Rattle.ledger_moves.specs.Histories.{History, Unforged, moves}
use Rattle.line_extensions.specs.Trace.{StepRecord, Skipped, Did}
use Rattle.line_extensions.specs.Desks.{World, world, Asks, Does}
use Rattle.line_extensions.specs.SideTrace.{SideStep, Plain, Own, Broken}
use Rattle.line_extensions.specs.declared.{extension.Next.Next}
use Rattle.trace_runs.proofs.Left.{left_history}
use Rattle.trace_runs.specs.Fitting.{BeginsTold}
use Rattle.trace_runs.specs.Runs.{StopLeaves}
use Rattle.trace_extensions.specs.FitsStopped.{LeftByStep, StopsAt, at_event, at_own_line, before_it, FitsStopped, not_begun, all_of_it, part_of_it}
use Rattle.trace_extensions.specs.Models.{Model, by_model}
use Rattle.trace_extensions.specs.Places.{Place, place, MayStep}
use Rattle.node_turns.specs.declared.turn.Turn.{Turn}

module _ (τ : Tariff) where
  abbrev IsHistory : Place → Type 0
  IsHistory s = History τ editions s.ledger

  one_step : (old new : Place) (d : StepRecord) (turn : Turn) → IsHistory old → MayStep τ old new d turn → IsHistory new
  one_step old new d turn history step = subst IsHistory (sym step.new_is) (moves d.event d.text d.reply history step.may.unforged step.may.moves)

  module _ {V : Type 0} (m : Model V) where
    asked : (old new : World Place V) (first : Next) (steps : List StepRecord) (last : Next) → IsHistory old.scene → Asks (by_model m) (MayStep τ) old new first steps last → IsHistory new.scene
    asked old new first [] last history asks = subst (λ (w : World Place V). IsHistory w.scene) (sym asks.1) history
    asked old new first (d ∷ steps) last history asks = asked asks.0 new asks.1 steps last (one_step old.scene asks.0.scene d asks.2.turn history asks.2.did) asks.3

    did : (old new : World Place V) (ys : List (SideStep (List ℕ))) → IsHistory old.scene → Does (by_model m) (MayStep τ) old new ys → IsHistory new.scene
    did old new [] history does = subst (λ (w : World Place V). IsHistory w.scene) (sym does) history
    did old new (Plain (Skipped line) ∷ ys) history does = did does.0 new ys (subst (λ (w : World Place V). IsHistory w.scene) (sym does.1) history) does.2
    did old new (Plain (Did line d) ∷ ys) history does = did does.0 new ys (one_step old.scene does.0.scene d does.1.turn history does.1.did) does.2
    did old new (Own line own steps texts ∷ ys) history does =
        did does.0 new ys (asked (world old.scene does.1.did.desk) does.0 does.1.did.first steps _ history does.1.did.asks) does.2
    did old new (Broken line own steps ∷ ys) history does = did does.0 new ys (asked (world old.scene does.1.desk) does.0 does.1.first steps _ history does.1.asks) does.2

    -- what an event leaves that may have been done
    begun : (s : Place) (e : Event) (told : List ℕ) (K : Ledger) → IsHistory s → BeginsTold τ s.ledger s.left e told → StopLeaves τ s.ledger e s.left told K → History τ editions K
    begun s e told K history begins leaves =
        let d = begins in
        left_history τ s.ledger e s.left told K history (subst (λ (x : Event). IsWholeEvent x) d.1 d.2.moves.0) (subst (λ (x : Event). Unforged x s.ledger) d.1 d.2.unforged) leaves

    by_step : (s : Place) (e : Event) (K : Ledger) → IsHistory s → LeftByStep τ s e K → History τ editions K
    by_step s e K history (inl left) = begun s e [] K history left.0 left.1
    by_step s e K history (inr forged) = subst (λ (L : Ledger). History τ editions L) (sym forged.1) history

    at_stop : (at : World Place V) (line told : List ℕ) (K : Ledger) (kept : V) → IsHistory at.scene → StopsAt m τ at line told K kept → History τ editions K
    at_stop at line told K kept history (at_event x) =
        begun at.scene x.event told K history x.begins x.leaves
    at_stop at line told K kept history (at_own_line (not_begun is x)) = subst (λ (L : Ledger). History τ editions L) (sym x.ledger) history
    at_stop at line told K kept history (at_own_line (all_of_it is x)) =
        subst (λ (L : Ledger). History τ editions L) (sym x.ledger) (asked (world at.scene x.did.desk) x.behind x.did.first x.steps _ history x.did.asks)
    at_stop at line told K kept history (at_own_line (part_of_it is x)) =
        by_step x.behind.scene x.event K (asked (world at.scene x.did.desk) x.behind x.did.first x.steps _ history x.did.asks) x.leaves
    at_stop at line told K kept history (before_it x) = subst (λ (L : Ledger). History τ editions L) (sym x.ledger) history

    pub stop_history : (H : Ledger) (script report rates : List ℕ) (v : V) → History τ editions H → (fits : FitsStopped m (λ at line told L kept. StopsAt m τ at line told L kept) τ H script report rates v) → History τ editions fits.ledger
    stop_history H script report rates v history fits =
        at_stop fits.behind fits.line fits.told fits.ledger fits.kept (did (world (place H rates) v) fits.behind fits.trace history fits.does) fits.stop
