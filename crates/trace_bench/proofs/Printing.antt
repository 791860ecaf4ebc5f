-- The mark that a `print` prints, by the ledger.
use Rattle.std.proofs.Common.{◌≡◌, ℕ, ℤ, List, [], Option, Some, None, refl, sym, ◌∙◌, ap}
use Rattle.bench_base.specs.declared.events.Event.TheVariants as ev
use Rattle.bench_base.specs.Plans.{Plan}
use Rattle.bench_base.specs.Rules.{todays_rules, editions}
use Rattle.bench_base.specs.Ledger.{Ledger}
use Rattle.bench_base.specs.Events.{IsWholeEvent}
use Rattle.node_acts.specs.declared.asked.Asked.TheVariants.{Call}
use Rattle.node_turns.specs.Printing.{print_of}
use Rattle.ledger_moves.specs.Tariffs.{Tariff}
use Rattle.ledger_moves.specs.Moves.{plan}
use Rattle.ledger_moves.specs.Histories.{History}
use Rattle.trace_host.specs.Records.{printing}
use Rattle.trace_host.specs.Cells as host
use Rattle.trace_host.specs.Verdicts.{AtHosts}
use Rattle.trace_bench.specs.Seeing.{Audit, Sees}
use Rattle.bench_abstraction.proofs.Quiet.{plan_none}

module _ (a : Audit) (j : ℕ) (τ : Tariff) (H : Ledger) (sees : Sees a H) where
  pub undated_none : a.day ≡ None → print_of (plan τ todays_rules H (ev.Print j) []).after ≡ None
  undated_none none = ap (λ (p : Plan). print_of p.after) (plan_none τ H (ev.Print j) [] refl (sym none ∙ sees.run.day.day))

  pub dated_mark : (today : ℤ) (mark : Option (List ℕ)) → a.day ≡ Some today → History τ editions H → IsWholeEvent (ev.Print j)
      → ((t : ℤ) → AtHosts t (Call (printing j)) (host.view_of a.host) (λ υ K e. print_of (plan υ todays_rules K e []).after ≡ mark))
      → print_of (plan τ todays_rules H (ev.Print j) []).after ≡ mark
  dated_mark today mark day history whole law = law today τ H (ev.Print j) history tt (sym sees.run.day.day ∙ day) whole refl tt (sym sees.run.host)
