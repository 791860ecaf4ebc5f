-- What is said where a report ends before the line end of the next answer.
use Rattle.std.specs.Prelude.{◌≡◌, ℕ, List, ◌++◌, Option}
use Rattle.bench_base.specs.declared.events.Event.{Event}
use Rattle.bench_base.specs.Ledger.{Ledger}
use Rattle.bench_base.specs.Rules.{editions}
use Rattle.ledger_moves.specs.Tariffs.{Tariff}
use Rattle.ledger_moves.specs.Histories.{History}
use Rattle.trace_bench.specs.Judging.{AtEach}
use Rattle.trace_bench.specs.Seeing.{Audit, Sees}
use Rattle.trace_bench.specs.Stopping.{IsBegun, IsUnbegun}
use Rattle.trace_runs.specs.Imprints.{IsLeftOpen, imprint_at}
use Rattle.trace_runs.specs.declared.{imprint.Given.Given, imprint.Imprint.Imprint, verdict.Verdict.Verdict, verdict.Verdict.TheVariants.Lawful, verdict.Verdict.TheVariants.Stopped, verdict.Verdict.TheVariants.Wrong, verdict.Verdict.TheVariants.Forged, verdict.Verdict.TheVariants.Unkept, verdict.Verdict.TheVariants.More, verdict.Verdict.TheVariants.Memory, verdict.Verdict.TheVariants.Unread}

-- The event of the line of this number; these bytes of the report and of the rates are left.
module _ (number : ℕ) (e : Event) (report rates : List ℕ) (old new : Audit) (before after : List Imprint) where
  -- the run was stopped there, and this is open of what was printed
  pub record IsStop (given : Option Given) : Type 0 where
    pub begun : AtEach old e (λ τ H. IsBegun τ H e rates report new)
    pub left_open : (τ : Tariff) (H : Ledger) → History τ editions H → Sees old H → IsLeftOpen τ H e report given
    pub prints : after ≡ before ++ imprint_at number given

  abbrev pub StopsSo : Verdict → Type 0
  StopsSo (Stopped n) = (n ≡ number) × (given : Option Given) × IsStop given
  StopsSo (Wrong n due) = (n ≡ number) × AtEach old e (λ τ H. IsUnbegun τ H e rates report new due) × (after ≡ before)
  StopsSo Memory = after ≡ before
  StopsSo (Lawful end) = ⊥
  StopsSo (More n end) = ⊥
  StopsSo (Forged n) = ⊥
  StopsSo (Unkept n) = ⊥
  StopsSo (Unread input n) = ⊥
