-- An event of a node, in a history: its replies are moves, and what it goes through is one of the steps.
use Rattle.std.proofs.Common.{◌≡◌, [], ◌∷◌, List, Option, Some, None, sym, subst, ◌⊎◌, inl, inr, refl, option_map}
use Rattle.std.specs.Prelude.{IsSome}
use Rattle.bench_base.specs.declared.{words.Node.Node, ledger.Commit.Commit, events.Event.Event, events.Reply.Reply}
use Rattle.bench_base.specs.Rules.{todays_rules}
use Rattle.bench_base.specs.Plans.{Plan}
use Rattle.bench_base.specs.Ledger.{Ledger, day_in, torn_of, counted}
use Rattle.bench_base.specs.Events.{IsWholeEvent}
use Rattle.node_acts.specs.Views.{Counting}
use Rattle.node_acts.specs.Kinds.{view_in}
use Rattle.node_acts.specs.Plans.{Fails, IsOtherUp, MayReply, after}
use Rattle.ledger_moves.specs.Tariffs.{Tariff}
use Rattle.ledger_moves.specs.Moves.{Moves, OtherUp, FailsToRead, plan, entries}
use Rattle.bench_abstraction.proofs.Steps.{Step}

open_if : {A : Type 0} (f : Commit → A) (t : Option Commit) → IsSome (option_map f t) → IsSome t
open_if f None h = h
open_if f (Some c) h = refl

module _ {S X : Type 0} (n : Counting S X) (m : Node) (seen : List Commit → S) (τ : Tariff) (H : Ledger) (e : Event) (p : Plan) (planned : plan τ todays_rules H e [] ≡ p) where
  abbrev Gets : Reply → Plan → Type 0
  Gets reply q = (reply ≡ q.reply) ⊎ (OtherUp q.reply reply H ⊎ (Fails q reply ⊎ FailsToRead e reply (day_in H)))

  other_up : (reply : Reply) → IsOtherUp n m (view_in m seen H) p reply → OtherUp p.reply reply H
  other_up reply o = record {
    node = m;
    count = n.count (seen (counted H));
    answer_is = o.0;
    more = o.2;
    torn = open_if (λ c. seen (c ∷ counted H)) (torn_of m H) o.1;
  }

  pub moves : IsWholeEvent e → (reply : Reply) → MayReply n m (view_in m seen H) p reply → Moves τ todays_rules H e [] reply
  moves whole reply may = (whole, subst (Gets reply) (sym planned) (gets may))
    where
      gets : MayReply n m (view_in m seen H) p reply → Gets reply p
      gets (inl h) = inl h
      gets (inr (inl o)) = inr (inl (other_up reply o))
      gets (inr (inr f)) = inr (inr (inl f))

  pub goes : (reply : Reply) (made : Option (Commit × S)) → Step n m seen H reply made (after p reply H) → Step n m seen H reply made (entries τ todays_rules H e [] reply)
  goes reply made step = subst (λ q. Step n m seen H reply made (after q reply H)) (sym planned) step
