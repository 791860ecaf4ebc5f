-- Each moment of a run, up to the first forged event: between two events the bench represents the ledger so far, and a stop of the process at any moment leaves
-- what represents it too.
use Rattle.std.specs.Prelude.{ℕ, List, [], ◌∷◌}
use Rattle.bench_base.specs.declared.ledger.Entry.TheVariants.{Begin}
use Rattle.bench_base.specs.Ledger.{Ledger, counted}
use Rattle.bench_base.specs.Rules.{todays_rules, editions}
use Rattle.ledger_terms.specs.Further.{Paid}
use Rattle.ledger_terms.specs.Lawful.{Always, Lawful}
use Rattle.ledger_moves.specs.Tariffs.{Tariff}
use Rattle.ledger_moves.specs.Histories.{History, Unforged}
use Rattle.bench.specs.Benches.{Nodes, BenchOf, Stands}
use Rattle.bench.specs.Steps.{LeftFor, after_stop}
use Rattle.script_replay.specs.Chains.{DidEvents, SceneOf}
use Rattle.line_extensions.specs.Trace.{StepRecord}
use Rattle.script_replay.specs.Trace.{ledger_by}

-- at each moment each device's accepted mail was franked, and what it franked was bought
abbrev pub IsAllPaid : Ledger → Type 0
IsAllPaid H = Always (λ P. (d : ℕ) → Paid (counted P) d) H

module _ (n : Nodes) where
  -- the bench represents this history
  pub record StandsFor (τ : Tariff) (bench : BenchOf n) (L : Ledger) : Type 0 where
    pub history : History τ editions L
    pub stands : Stands n bench L

  -- Before an event and after the last: the bench represents the ledger so far, which is lawful and paid for to the letter box; and what a
  -- stop of the process leaves represents that ledger with a new run begun.
  pub record IsBetween (τ : Tariff) (bench : BenchOf n) (L : Ledger) : Type 0 where
    pub stands : StandsFor τ bench L
    pub lawful : Lawful todays_rules L
    pub paid : IsAllPaid L
    pub left : LeftFor n τ bench bench (Begin ∷ L)

  -- So it is at each moment of the steps; and what a stop within an event leaves represents the ledger before it with the commit of the event,
  -- if it has one, open.
  abbrev pub Throughout : Tariff → Ledger → (old new : SceneOf n) (trace : List StepRecord) → DidEvents n old new trace → Type 0
  Throughout τ L old new [] did = IsBetween τ old.bench L
  Throughout τ L old new (d ∷ rest) did =
      IsBetween τ old.bench L
      × (Unforged d.event L → LeftFor n τ old.bench did.0.bench (after_stop τ L d.event d.text) × Throughout τ (ledger_by τ L d) did.0 new rest did.2)
