-- Parts of a run up to the first forged event.
use Rattle.std.proofs.Common.{List, [], ◌∷◌, ◌++◌}
use Rattle.bench_base.specs.Ledger.{Ledger}
use Rattle.bench_base.specs.Rules.{editions}
use Rattle.ledger_moves.specs.Histories.{History}
use Rattle.ledger_moves.specs.Tariffs.{Tariff}
use Rattle.bench.specs.Benches.{Nodes}
use Rattle.line_extensions.specs.Trace.{StepRecord}
use Rattle.script_replay.specs.Chains.{SceneOf, DidEvents}
use Rattle.script_replay.specs.Trace.{ledger_by, ledger_after, RunWhile, AreUnforged}
use Rattle.script_replay.specs.Run.{Unforged}
use Rattle.script_replay.specs.Throughout.{Throughout}

module _ (τ : Tariff) where
  -- == what holds of each event ==

  module _ (P : Ledger → StepRecord → Type 0) where
    pub first_while : (H : Ledger) (a b : List StepRecord) → RunWhile τ Unforged P H (a ++ b) → RunWhile τ Unforged P H a
    first_while H [] b run = tt
    first_while H (d ∷ a) b run = λ u. ((run u).0, first_while (ledger_by τ H d) a b (run u).1)

    pub later_while : (H : Ledger) (a b : List StepRecord) → AreUnforged τ Unforged H a → RunWhile τ Unforged P H (a ++ b) → RunWhile τ Unforged P (ledger_after τ H a) b
    later_while H [] b u run = run
    later_while H (d ∷ a) b u run = later_while (ledger_by τ H d) a b u.1 (run u.0).1

  -- == ledgers ==

  -- each ledger so far is a history
  abbrev pub AreHistories : Ledger → List StepRecord → Type 0
  AreHistories H [] = History τ editions H
  AreHistories H (d ∷ rest) = History τ editions H × (Unforged H d.event → AreHistories (ledger_by τ H d) rest)

  pub first_history : (H : Ledger) (trace : List StepRecord) → AreHistories H trace → History τ editions H
  first_history H [] are = are
  first_history H (d ∷ rest) are = are.0

  pub later_histories : (H : Ledger) (a b : List StepRecord) → AreUnforged τ Unforged H a → AreHistories H (a ++ b) → AreHistories (ledger_after τ H a) b
  later_histories H [] b u are = are
  later_histories H (d ∷ a) b u are = later_histories (ledger_by τ H d) a b u.1 (are.1 u.0)

  pub all_histories : (n : Nodes) (H : Ledger) (old new : SceneOf n) (trace : List StepRecord) (did : DidEvents n old new trace) → Throughout n τ H old new trace did → AreHistories H trace
  all_histories n H old new [] did all = all.stands.history
  all_histories n H old new (d ∷ rest) did all = (all.0.stands.history, λ u. all_histories n (ledger_by τ H d) did.0 new rest did.2 (all.1 u).1)
