-- An event of a node does what the node alone would do, by its plan, its steps and what it leaves of the others.
use Rattle.std.proofs.Common.{◌≡◌, ℤ, [], ◌∷◌, ◌++◌, Option, Some, true, sym, subst, option_map, ◌∙◌, ap}
use Rattle.bench_base.specs.declared.{words.Node.Node, words.Node.TheVariants.Device, words.Node.TheVariants.Centre, words.Node.TheVariants.Host, words.Node.TheVariants.Verifier, ledger.Commit.Commit, events.Event.Event, events.Reply.Reply}
use Rattle.bench_base.specs.Rules.{todays_rules}
use Rattle.bench_base.specs.Nodes.{node_of}
use Rattle.bench_base.specs.Plans.{Plan}
use Rattle.bench_base.specs.Replies.{class_of}
use Rattle.bench_base.specs.Ledger.{Ledger, count_of, torn_of, is_on, counted}
use Rattle.bench_base.specs.Events.{IsWholeEvent}
use Rattle.node_acts.specs.declared.asked.Asked.{Asked}
use Rattle.node_acts.specs.Views.{Counting}
use Rattle.node_acts.specs.Plans.{MayReply, after}
use Rattle.node_acts.specs.Kinds.{Kind, view_in}
use Rattle.ledger_laws.specs.Nexts.{AreOrdered, IsOpen, IsNext}
use Rattle.ledger_moves.specs.Tariffs.{Tariff}
use Rattle.ledger_moves.specs.Moves.{plan}
use Rattle.bench_abstraction.specs.Kinds.{bench_kinds}
use Rattle.bench_abstraction.specs.Follows.{Follows, plan_by, commit_by}
use Rattle.bench_abstraction.proofs.Frames.{device_apart, centre_apart, host_apart, verifier_apart}
use Rattle.bench_abstraction.proofs.Histories.{moves, goes}
use Rattle.bench_abstraction.specs.Messages.{sent_in, IsFew}
use Rattle.bench_abstraction.proofs.Asked.{IsTame, few_after}
use Rattle.bench_abstraction.proofs.Sent.{sent_after}
use Rattle.bench_abstraction.proofs.Steps.{Step}
use Rattle.bench_abstraction.proofs.Views.{here, others, rests}

module _ {N S X C : Type 0} (n : Counting S X) (kind : Kind N S C) (m : Node) (d : N) (τ : Tariff) (H : Ledger) (e : Event) (today : ℤ) (asked : Asked C)
    (opens : (k : Node) (c : Commit) → torn_of k H ≡ Some c → IsOpen k c H) (nexts : (c : Commit) → (plan τ todays_rules H e []).commit ≡ Some c → IsNext c H)
    (counts : n.count (kind.seen d (counted H)) ≡ count_of m (counted H)) where
  abbrev p : Plan
  p = plan_by n kind m d today asked H

  abbrev made : Option (Commit × S)
  made = commit_by n kind m d today asked H

  pub followed : plan τ todays_rules H e [] ≡ p → p.commit ≡ option_map (λ (x : Commit × S). x.0) made
      → ((x : Commit × S) → made ≡ Some x → (node_of x.0 ≡ m) × (is_on m H ≡ true)) → IsWholeEvent e → IsTame p
      → ((reply : Reply) → MayReply n m (view_in m (kind.seen d) H) p reply → Step n m (kind.seen d) H reply made (after p reply H)) → Follows n kind m d bench_kinds τ H e today asked
  followed planned alike own whole tame steps = record {
    plan = planned;
    commit = alike;
    own = own;
    replied = λ reply may.
        let step = goes n m (kind.seen d) τ H e p planned reply made (steps reply may) in
        record {
          moves = moves n m (kind.seen d) τ H e p planned whole reply may;
          here = here H opens n m (kind.seen d) counts reply made _ step;
          others = record {
            devices = λ i differs. others H opens n m (kind.seen d) (Device i) differs _ (device_apart i) reply made _ next step;
            centre = λ differs. others H opens n m (kind.seen d) Centre differs _ centre_apart reply made _ next step;
            host = λ differs. others H opens n m (kind.seen d) Host differs _ host_apart reply made _ next step;
            verifier = λ differs. others H opens n m (kind.seen d) Verifier differs _ verifier_apart reply made _ next step;
          };
          rests = rests H opens n m (kind.seen d) reply made _ step;
          sent = subst (λ (q : Plan). sent_in (after q reply H) ≡ sent_in H ++ sent_in (after q reply [])) (sym planned) (sent_after p (class_of reply) H tame.none);
          few = subst (λ (q : Plan). IsFew (after q reply [])) (sym planned) (few_after p (class_of reply) tame);
        };
  }
    where
      next : (c : Commit) (s : S) → made ≡ Some (c, s) → AreOrdered (c ∷ counted H)
      next c s is = (nexts c (ap (λ (q : Plan). q.commit) planned ∙ alike ∙ ap (λ (o : Option (Commit × S)). option_map (λ (x : Commit × S). x.0) o) is)).ordered
