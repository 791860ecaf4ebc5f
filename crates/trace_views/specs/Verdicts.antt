-- What a line of the report shows about an event of one node, by the ledger.
use Rattle.std.specs.Prelude.{◌≡◌, ◌≢◌, ◌⊎◌, ◌↔◌, ℕ, ℤ, List, [], ◌∷◌, ◌++◌, Option, Some, None, Result, Ok, Err}
use Rattle.bench_base.specs.declared.{words.Node.Node, ledger.Commit.Commit, events.Event.Event, events.Reply.Reply}
use Rattle.bench_base.specs.Plans.{Plan}
use Rattle.bench_base.specs.Rules.{todays_rules, editions}
use Rattle.bench_base.specs.Ledger.{Ledger, day_in, IsSent, IsReleased}
use Rattle.bench_base.specs.Events.{IsWholeEvent}
use Rattle.node_acts.specs.declared.asked.Asked.{Asked}
use Rattle.node_acts.specs.Views.{Counting, View}
use Rattle.node_acts.specs.Kinds.{Kind, view_in, node_plan, node_commit}
use Rattle.node_acts.specs.Plans.{after}
use Rattle.node_turns.specs.Turns as turns
use Rattle.node_turns.specs.Turns.{turn_of}
use Rattle.node_turns.specs.declared.turn.Turn.{Turn}
use Rattle.ledger_moves.specs.Tariffs.{Tariff}
use Rattle.ledger_moves.specs.Moves.{Moves, answer, entries, plan}
use Rattle.ledger_moves.specs.Histories.{History, Unforged}
use Rattle.bench_abstraction.specs.declared.routing.Routed.TheVariants as route
use Rattle.bench_abstraction.specs.declared.routing.OfDay.{OfDay}
use Rattle.bench_abstraction.specs.Follows.{OthersStay, Rests}
use Rattle.bench_abstraction.specs.Kinds.{bench_kinds}
use Rattle.bench_abstraction.specs.Messages.{sent_in}
use Rattle.bench_abstraction.specs.Tariff.{quote_in}
use Rattle.bench_abstraction.specs.Routing.{routed}
use Rattle.script_text.specs.Texts.{text_of, IsWholeReply}
use Rattle.trace_nodes.specs.Judged.{Judged}
use Rattle.trace_nodes.specs.Released.{released_in}

-- the message, if there is one
abbrev pub listed : Option (List ℕ) → List (List ℕ)
listed None = []
listed (Some bytes) = bytes ∷ []

-- the ledger after an event that got this reply, if nothing is read as rates
abbrev pub behind : Tariff → Ledger → Event → Reply → Ledger
behind τ H e reply = entries τ todays_rules H e [] reply

-- the turn of an event that took this text of rates and got this reply
abbrev pub turn_at : Tariff → Ledger → Event → List ℕ → Reply → Turn
turn_at τ H e text reply = turn_of reply (after (plan τ todays_rules H e text) reply [])

-- what was sent and released at L, in any run, is what was at H, and this message and this mark, if there are any
pub record Adds (sent released : Option (List ℕ)) (H L : Ledger) : Type 0 where
  pub sends : (bytes : List ℕ) → IsSent bytes L ↔ ((sent ≡ Some bytes) ⊎ IsSent bytes H)
  pub releases : (mark : List ℕ) → IsReleased mark L ↔ ((released ≡ Some mark) ⊎ IsReleased mark H)

-- Node m, which is d of its kind.
module _ {N S X C : Type 0} (n : Counting S X) (kind : Kind N S C) (m : Node) (d : N) where
  -- the plan of what it is asked on a day, and the commit, by what is seen of it
  abbrev pub plan_in : ℤ → Asked C → View S → Plan
  plan_in today asked v = node_plan n m (kind.plan d today v) v asked

  abbrev pub commit_in : ℤ → Asked C → View S → Option (Commit × S)
  commit_in today asked v = node_commit (kind.commit d today v) asked

  module _ (τ : Tariff) (H : Ledger) (e : Event) (line : List ℕ) where
    -- The line is that of this reply, which the event may get at this ledger, and the node is seen so at the ledger that it leaves. Everything
    -- except what the turn sends is otherwise as it was. Any other reply that the event may get with that line leaves the same ledger.
    pub record MovesSo (w : View S) (reply : Reply) : Type 0 where
      pub text : text_of reply ≡ line
      pub whole : IsWholeReply reply
      pub moves : Moves τ todays_rules H e [] reply
      pub here : view_in m (kind.seen d) (behind τ H e reply) ≡ w
      pub others : OthersStay bench_kinds m H (behind τ H e reply)
      pub rests : Rests H (behind τ H e reply)
      pub sends : sent_in (behind τ H e reply) ≡ sent_in H ++ listed (turns.sent_in (turn_at τ H e [] reply).entries)
      pub adds : Adds (turns.sent_in (turn_at τ H e [] reply).entries) (released_in (turn_at τ H e [] reply).entries) H (behind τ H e reply)
      pub alone : (other : Reply) → Moves τ todays_rules H e [] other → text_of other ≡ line → behind τ H e other ≡ behind τ H e reply

    -- no reply that the event may get at this ledger has this line; this was the answer
    pub record MovesNever (w : View S) (due : Reply) : Type 0 where
      pub due_is : due ≡ answer τ todays_rules H e []
      pub never : (reply : Reply) → Moves τ todays_rules H e [] reply → text_of reply ≢ line
      pub rests : w ≡ view_in m (kind.seen d) H

  -- P holds at each history that shows the node so, for each event that asks this of it on this day and contains nothing forged
  abbrev pub ByLedger : (Asked C → OfDay) → (Asked C → Type 0) → ℤ → Asked C → View S → (Tariff → Ledger → Event → Type 0) → Type 0
  ByLedger work_of IsWhole today asked v P = (τ : Tariff) (H : Ledger) (e : Event) → History τ editions H → Unforged e H
      → day_in H ≡ Some today → IsWholeEvent e
      → routed (sent_in H) (quote_in τ H) e ≡ Some (route.OfDay (work_of asked)) → IsWhole asked → view_in m (kind.seen d) H ≡ v → P τ H e

  -- the judgement of the line is that of what is seen of the node
  abbrev pub IsByView : {T : Type 0} → (T → Turn → Type 0) → ℤ → Asked C → List ℕ → View S → View S → Result T Reply → Type 0
  IsByView IsOf today asked line v w result = Judged n m v (plan_in today asked v) (commit_in today asked v) IsOf line w result

  abbrev pub MovesBy : {T : Type 0} → (T → Turn → Type 0) → Tariff → Ledger → Event → List ℕ → View S → Result T Reply → Type 0
  MovesBy IsOf τ H e line w (Ok told) = (reply : Reply) × MovesSo τ H e line w reply × IsOf told (turn_at τ H e [] reply)
  MovesBy IsOf τ H e line w (Err due) = MovesNever τ H e line w due

  -- The judgement of the line is that of the ledger, at each history that shows the node so. This holds for each event that asks this of it on this
  -- day and contains nothing forged.
  abbrev pub IsByLedger : {T : Type 0} → (T → Turn → Type 0) → (Asked C → OfDay) → (Asked C → Type 0) → ℤ → Asked C → List ℕ → View S → View S
      → Result T Reply → Type 0
  IsByLedger IsOf work_of IsWhole today asked line v w result = ByLedger work_of IsWhole today asked v (λ τ H e. MovesBy IsOf τ H e line w result)
