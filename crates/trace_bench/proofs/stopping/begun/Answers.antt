use Rattle.std.proofs.Common.{◌≡◌, ℕ, List, Bool, Option, Some, None, false, IsTrue, subst}
use Rattle.bench_base.specs.declared.{events.Event.Event, events.Reply.Reply}
use Rattle.bench_base.specs.Ledger.{Ledger, day_in}
use Rattle.bench_base.specs.Events.{IsWholeEvent}
use Rattle.ledger_moves.specs.Tariffs.{Tariff}
use Rattle.script_text.specs.Texts.{text_of}
use Rattle.trace_bench.specs.Prefixes.{IsFound, BeginsOtherUp, BeginsCutPrint, BeginsRatesFault, IsDue, Comes}
use Rattle.trace_bench.specs.Stopping.{IsPrefixOf}
use Rattle.trace_bench.proofs.Stops.{by_answer, by_rates, by_none}
use Rattle.trace_bench.proofs.stopping.begun.Goals as goal

no_prefix : (b : Bool) {P : Type 0} → (P → IsTrue b) → b ≡ false → P → ⊥
no_prefix b so is p = let t : IsTrue false = subst (λ (x : Bool). IsTrue x) is (so p) in cc t

last : (τ : Tariff) (H : Ledger) (e : Event) (left prefix : List ℕ) (whole : IsWholeEvent e) (due : Reply) → IsDue τ H e left due → (IsPrefixOf prefix (text_of due) → ⊥) → IsFound (BeginsOtherUp due H prefix) None → IsFound (BeginsCutPrint due prefix) None
    → (found : Option Reply) → IsFound (BeginsRatesFault e (day_in H) prefix) found → Comes τ H e left prefix found
last τ H e left prefix whole due due_is no_answer no_up no_print (Some x) is = by_rates τ H e left prefix whole due due_is x is
last τ H e left prefix whole due due_is no_answer no_up no_print None is = by_none τ H e left prefix whole due due_is no_answer no_up no_print is

pub returns-then-begins-clause-exact : goal.returns-then-begins-clause-exact
returns-then-begins-clause-exact c τ H left sees due_is =
    by_answer τ H c.args.event.now left c.args.prefix.now c.requires.whole c.args.due.now due_is c.begins.ensures.whole (c.begins.ensures.exact.0 c.if-begins.true)

pub returns-clause-exact : goal.returns-clause-exact
returns-clause-exact c τ H left sees due_is =
    last τ H c.args.event.now left c.args.prefix.now c.requires.whole c.args.due.now due_is (no_prefix c.begins.result c.begins.ensures.exact.1 c.if-begins.false)
    (rw c.in_default.is at c.other_up.ensures.exact H sees) (rw c.in_default-cut_print.is at c.cut_print.ensures.exact) c.rates_fault.result
    (subst (λ day. IsFound (BeginsRatesFault c.args.event.now day c.args.prefix.now) c.rates_fault.result) sees.run.day.day c.rates_fault.ensures.exact)
