-- Steps of a bench, one list after another; and by every history that it represents.
use Rattle.std.proofs.Common.{List, [], ◌∷◌, refl, sym, subst}
use Rattle.bench_base.specs.declared.events.Reply.{Reply}
use Rattle.bench_base.specs.Ledger.{Ledger}
use Rattle.bench_base.specs.Rules.{todays_rules, editions}
use Rattle.ledger_terms.specs.Sane.{IsSane}
use Rattle.ledger_moves.specs.Tariffs.{Tariff}
use Rattle.ledger_moves.specs.Moves as moves
use Rattle.ledger_moves.specs.Moves.{entries}
use Rattle.ledger_moves.specs.Histories.{History}
use Rattle.bench_abstraction.specs.Tariff.{IsOfTexts}
use Rattle.bench.specs.Benches.{Nodes, Stands}
use Rattle.bench.specs.Steps.{StepsOn}
use Rattle.script_replay.specs.Chains.{DidEvent, DidEvents, SceneOf}
use Rattle.line_extensions.specs.Trace.{StepRecord}
use Rattle.script_replay.specs.Trace.{ledger_by, ledger_after, RunWhile, AreUnforged}
use Rattle.script_replay.specs.Run.{Unforged, Moves, Sane}
use Rattle.script_replay.specs.Throughout.{StandsFor}

module _ (n : Nodes) where
  pub did_one : (old new : SceneOf n) (d : StepRecord) → DidEvent n old new d → DidEvents n old new (d ∷ [])
  did_one old new d did = (new, did, refl)

  -- == by a history ==

  module _ (τ : Tariff) (texts : IsOfTexts τ) (tells : n.storage.tells) where
    -- what the step of an event does
    pub steps_on : (old new : SceneOf n) (d : StepRecord) (L : Ledger) (did : DidEvent n old new d) → StandsFor n τ old.bench L → Unforged L d.event
        → StepsOn n τ L d.event d.text did.turn old.bench new.bench old.outside new.outside
    steps_on old new d L did s u = did.steps.history τ L texts s.history u s.stands tells

    -- what one event does, by its reply
    pub moved : (old new : SceneOf n) (d : StepRecord) (L : Ledger) → DidEvent n old new d → StandsFor n τ old.bench L → Unforged L d.event → Moves τ L d
    moved old new d L did s u = subst (λ (x : Reply). moves.Moves τ todays_rules L d.event d.text x) (sym did.told) (steps_on old new d L did s u).moves

    pub stands_then : (old new : SceneOf n) (d : StepRecord) (L : Ledger) → DidEvent n old new d → StandsFor n τ old.bench L → Unforged L d.event
        → StandsFor n τ new.bench (ledger_by τ L d)
    stands_then old new d L did s u = record {
      history = History.moves d.event d.text d.reply s.history u (moved old new d L did s u);
      stands = subst (λ (x : Reply). Stands n new.bench (entries τ todays_rules L d.event d.text x)) (sym did.told) (steps_on old new d L did s u).stands;
    }

    -- what holds of each event where the bench represents a history and nothing is forged
    pub each_while : (P : Ledger → StepRecord → Type 0) → ((old new : SceneOf n) (d : StepRecord) (L : Ledger) → DidEvent n old new d → StandsFor n τ old.bench L → Unforged L d.event → P L d)
        → (old new : SceneOf n) (trace : List StepRecord) (L : Ledger) → DidEvents n old new trace → StandsFor n τ old.bench L → RunWhile τ Unforged P L trace
    each_while P law old new [] L did s = tt
    each_while P law old new (d ∷ rest) L did s = λ u.
        (law old did.0 d L did.1 s u, each_while P law did.0 new rest (ledger_by τ L d) did.2 (stands_then old did.0 d L did.1 s u))

    pub runs : (old new : SceneOf n) (trace : List StepRecord) (L : Ledger) → DidEvents n old new trace → StandsFor n τ old.bench L → RunWhile τ Unforged (Moves τ) L trace
    runs old new trace L did s = each_while (Moves τ) moved old new trace L did s

    -- what never comes didn't
    pub sane_while : ((L : Ledger) (d : StepRecord) → History τ editions L → Unforged L d.event → Moves τ L d → IsSane d.reply) → (old new : SceneOf n) (trace : List StepRecord) (L : Ledger)
        → DidEvents n old new trace → StandsFor n τ old.bench L → RunWhile τ Unforged Sane L trace
    sane_while law old new trace L did s = each_while Sane (λ x y d K event t u. law K d t.history u (moved x y d K event t u)) old new trace L did s

    pub stands_after : (old new : SceneOf n) (trace : List StepRecord) (L : Ledger) → DidEvents n old new trace → StandsFor n τ old.bench L → AreUnforged τ Unforged L trace
        → StandsFor n τ new.bench (ledger_after τ L trace)
    stands_after old new [] L did s u = subst (λ (b : SceneOf n). StandsFor n τ b.bench L) (sym did) s
    stands_after old new (d ∷ rest) L did s u =
        stands_after did.0 new rest (ledger_by τ L d) did.2 (stands_then old did.0 d L did.1 s u.0) u.1
