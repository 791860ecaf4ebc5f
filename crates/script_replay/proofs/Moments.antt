-- At each moment of a run the bench represents the ledger so far, and so does what a stop of the process leaves.
use Rattle.std.proofs.Common.{List, [], ◌∷◌}
use Rattle.bench_base.specs.Ledger.{Ledger}
use Rattle.bench_base.specs.Rules.{todays_rules, editions}
use Rattle.ledger_terms.specs.Editions.{Editions}
use Rattle.ledger_laws.specs.Laws.{ForHistories, Holds}
use Rattle.ledger_moves.specs.Tariffs.{Tariff}
use Rattle.ledger_moves.specs.Histories.{History}
use Rattle.bench_abstraction.specs.Tariff.{IsOfTexts}
use Rattle.bench.specs.Benches.{Nodes, IsReady}
use Rattle.bench.proofs.EachKind.{all_rest}
use Rattle.bench.proofs.Left.{rest_stopped}
use Rattle.script_replay.specs.Chains.{DidEvents, SceneOf}
use Rattle.line_extensions.specs.Trace.{StepRecord}
use Rattle.script_replay.specs.Trace.{ledger_by}
use Rattle.script_replay.specs.Throughout.{StandsFor, IsBetween, Throughout}
use Rattle.script_replay.proofs.Chains.{steps_on, stands_then}

module _ (n : Nodes) (today : Editions editions) (holds : ForHistories Holds)
    (τ : Tariff) (texts : IsOfTexts τ) (tells : n.storage.tells) where
  between : (at : SceneOf n) (L : Ledger) → IsReady at.bench → StandsFor n τ at.bench L → IsBetween n τ at.bench L
  between at L ready s = record {
    stands = s;
    lawful = (holds τ todays_rules _ L today s.history).lawful;
    paid = (holds τ todays_rules _ L today s.history).paid;
    left = λ stores are. (History.begins s.history, rest_stopped n at.bench at.bench (all_rest at.bench) ready L s.stands tells stores are);
  }

  pub throughout : (old new : SceneOf n) (trace : List StepRecord) (L : Ledger) (did : DidEvents n old new trace) → IsReady old.bench → StandsFor n τ old.bench L
      → Throughout n τ L old new trace did
  throughout old new [] L did ready s = between old L ready s
  throughout old new (d ∷ rest) L did ready s = (
    between old L ready s,
    λ u. ((steps_on n τ texts tells old did.0 d L did.1 s u).stopped, throughout did.0 new rest (ledger_by τ L d) did.2 did.1.ready (stands_then n τ texts tells old did.0 d L did.1 s u)),
  )
