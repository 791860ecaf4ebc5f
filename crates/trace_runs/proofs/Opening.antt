-- What the printer was given in a print, where the report ends within its answer.
use Rattle.std.proofs.Common.{◌≡◌, ◌↔◌, ℕ, List, Bool, true, false, true≢false, IsTrue, Option, sym, ◌∙◌, subst}
use Rattle.bench_base.specs.declared.events.Event.{Event}
use Rattle.bench_base.specs.declared.events.Reply.TheVariants as r
use Rattle.bench_base.specs.Ledger.{Ledger}
use Rattle.bench_base.specs.Rules.{editions}
use Rattle.ledger_moves.specs.Tariffs.{Tariff}
use Rattle.ledger_moves.specs.Histories.{History}
use Rattle.script_text.specs.Texts.{text_of}
use Rattle.trace_bench.specs.Seeing.{Audit, Sees}
use Rattle.trace_bench.specs.Stopping.{IsPrefixOf}
use Rattle.trace_runs.specs.Imprints.{IsDueMark, IsTaken, whole, part, IsGivenAt, LeavesOpen, IsLeftOpen}
use Rattle.trace_runs.specs.declared.{imprint.Given.Given, imprint.Printed.TheVariants.Whole, imprint.Printed.TheVariants.Part}

-- of the two answers to a print, by whether each begins so
module _ (j : ℕ) (prefix : List ℕ) (a : Bool) (of_a : IsTrue a ↔ IsPrefixOf prefix (text_of (r.PrinterFault j))) where
  pub takes_fault : a ≡ true → IsTaken j prefix Part
  takes_fault is = part (λ printed. of_a.0 is)

  module _ (b : Bool) (of_b : IsTrue b ↔ IsPrefixOf prefix (text_of (r.Printed j))) where
    pub takes_whole : a ≡ false → b ≡ true → IsTaken j prefix Whole
    takes_whole other is = whole (of_b.0 is) (λ fault. true≢false (sym (of_a.1 fault) ∙ other))

    pub takes_neither : b ≡ false → IsTaken j prefix Part
    takes_neither other = part (λ printed. absurd (true≢false (sym (of_b.1 printed) ∙ other)))

pub left_open : (a : Audit) (e : Event) (due : Option (List ℕ)) (prefix : List ℕ) (given : Option Given) → IsDueMark a e due → LeavesOpen e due prefix given
    → (τ : Tariff) (H : Ledger) → History τ editions H → Sees a H → IsLeftOpen τ H e prefix given
left_open a e due prefix given is_due leaves τ H history sees = record {
  print = λ j is. subst (λ (o : Option (List ℕ)). IsGivenAt j prefix o given) (sym (is_due j is τ H history sees)) (leaves.print j is);
  other = leaves.other;
}
