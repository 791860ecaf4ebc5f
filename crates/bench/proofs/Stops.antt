-- If the process stops within an event, the ledger with the event's commit open, if it has one, is a history.
use Rattle.std.proofs.Common.{◌≡◌, inl, inr, ℕ, List, ◌∷◌, Option, Some, None, refl, ap, subst}
use Rattle.bench_base.specs.declared.{ledger.Commit.Commit, events.Event.Event}
use Rattle.bench_base.specs.declared.ledger.Entry.TheVariants as entry
use Rattle.bench_base.specs.declared.events.Reply.TheVariants as r
use Rattle.bench_base.specs.Nodes.{node_of}
use Rattle.bench_base.specs.Rules.{todays_rules, editions}
use Rattle.bench_base.specs.Ledger.{Ledger}
use Rattle.bench_base.specs.Events.{IsWholeEvent}
use Rattle.node_acts.specs.Plans.{with_torn}
use Rattle.ledger_moves.specs.Tariffs.{Tariff}
use Rattle.ledger_moves.specs.Moves.{plan, entries}
use Rattle.ledger_moves.specs.Histories.{History, Unforged, begins, moves}
use Rattle.bench.specs.Steps.{with_open, after_stop}

-- a commit that was torn in the event makes a history
open_history : (τ : Tariff) (H : Ledger) (e : Event) (text : List ℕ) → History τ editions H → IsWholeEvent e → Unforged e H
    → (o : Option Commit) → (plan τ todays_rules H e text).commit ≡ o → History τ editions (with_open o H)
open_history τ H e text history whole unforged None is = history
open_history τ H e text history whole unforged (Some c) is =
    let ledger : entries τ todays_rules H e text (r.Power (node_of c)) ≡ entry.Torn (node_of c) c ∷ H = ap (λ (o : Option Commit). with_torn o (node_of c) H) is in
    subst (λ (L : Ledger). History τ editions L) ledger (moves e text (r.Power (node_of c)) history unforged (whole, inr (inr (inl (inr (c, is, refl))))))

pub stop_history : (τ : Tariff) (H : Ledger) (e : Event) (text : List ℕ) → History τ editions H → IsWholeEvent e → Unforged e H → History τ editions (after_stop τ H e text)
stop_history τ H e text history whole unforged = begins (open_history τ H e text history whole unforged (plan τ todays_rules H e text).commit refl)
