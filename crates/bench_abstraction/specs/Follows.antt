-- How the ledger and what the bench sees of its nodes go together: by an event of one node.
use Rattle.std.specs.Prelude.{◌≡◌, ◌≢◌, ℕ, ℤ, ◌++◌, [], true, Option, Some, None, IfSome, option_map}
use Rattle.bench_base.specs.declared.{words.Node.Node, words.Node.TheVariants.Device, words.Node.TheVariants.Centre, words.Node.TheVariants.Host, words.Node.TheVariants.Verifier, ledger.Commit.Commit, events.Event.Event, events.Reply.Reply}
use Rattle.bench_base.specs.declared.events.Reply.TheVariants as r
use Rattle.bench_base.specs.Rules.{todays_rules, editions}
use Rattle.bench_base.specs.Nodes.{node_of}
use Rattle.bench_base.specs.Plans.{Plan, refuse}
use Rattle.bench_base.specs.Ledger.{Ledger, day_in, rates_in, is_on}
use Rattle.bench_base.specs.Events.{IsWholeEvent}
use Rattle.node_acts.specs.declared.asked.Asked.{Asked}
use Rattle.node_acts.specs.Views.{Counting, View}
use Rattle.node_acts.specs.Plans.{MayReply, view_after, after}
use Rattle.node_acts.specs.Kinds.{Kind, view_in, node_plan, node_commit}
use Rattle.ledger_moves.specs.Tariffs.{Tariff}
use Rattle.ledger_moves.specs.Moves.{Moves, plan, entries}
use Rattle.ledger_moves.specs.Histories.{History, Unforged}
use Rattle.bench_abstraction.specs.declared.routing.Routed.TheVariants as route
use Rattle.bench_abstraction.specs.declared.routing.OfDay.{OfDay}
use Rattle.bench_abstraction.specs.declared.routing.OfDay.TheVariants as of_day
use Rattle.bench_abstraction.specs.Centre.{AreBytes}
use Rattle.bench_abstraction.specs.Verifier as verifier
use Rattle.bench_abstraction.specs.Tariff.{quote_in}
use Rattle.bench_abstraction.specs.Kinds.{Kinds}
use Rattle.bench_abstraction.specs.Messages.{sent_in, IsFew}
use Rattle.bench_abstraction.specs.Routing.{routed}

-- nothing that the bench sees beside its nodes and the messages was changed
pub record Rests (old new : Ledger) : Type 0 where
  pub day : day_in new ≡ day_in old
  pub rates : rates_in new ≡ rates_in old

-- of each node but m the same is seen as before
pub record OthersStay {D C H V : Type 0} (kinds : Kinds D C H V) (m : Node) (old new : Ledger) : Type 0 where
  pub devices : (i : ℕ) → Device i ≢ m → view_in (Device i) (kinds.devices.seen i) new ≡ view_in (Device i) (kinds.devices.seen i) old
  pub centre : Centre ≢ m → view_in Centre (kinds.centre.seen tt) new ≡ view_in Centre (kinds.centre.seen tt) old
  pub host : Host ≢ m → view_in Host (kinds.host.seen tt) new ≡ view_in Host (kinds.host.seen tt) old
  pub verifier : Verifier ≢ m → view_in Verifier (kinds.verifier.seen tt) new ≡ view_in Verifier (kinds.verifier.seen tt) old

-- What is seen of node m, which is d of its kind, by the ledger, and what it does by that which is asked this on a day.
module _ {N S X C : Type 0} (n : Counting S X) (kind : Kind N S C) (m : Node) (d : N) where
  abbrev pub view_by : Ledger → View S
  view_by H = view_in m (kind.seen d) H

  abbrev pub plan_by : ℤ → Asked C → Ledger → Plan
  plan_by today asked H = node_plan n m (kind.plan d today (view_by H)) (view_by H) asked

  abbrev pub commit_by : ℤ → Asked C → Ledger → Option (Commit × S)
  commit_by today asked H = node_commit (kind.commit d today (view_by H)) asked

  module _ {D E F G : Type 0} (kinds : Kinds D E F G) (τ : Tariff) (H : Ledger) (e : Event) (today : ℤ) (asked : Asked C) where
    -- What follows from this reply. It is a move of the ledger. The record says what is seen of the node afterwards; each
    -- other node, the day and the rates are seen as before. The messages of the run are those before, and then what the
    -- event sent.
    pub record Replied (reply : Reply) : Type 0 where
      pub moves : Moves τ todays_rules H e [] reply
      pub here : view_by (entries τ todays_rules H e [] reply) ≡ view_after n reply (commit_by today asked H) (view_by H)
      pub others : OthersStay kinds m H (entries τ todays_rules H e [] reply)
      pub rests : Rests H (entries τ todays_rules H e [] reply)
      pub sent : sent_in (entries τ todays_rules H e [] reply) ≡ sent_in H ++ sent_in (after (plan τ todays_rules H e []) reply [])
      pub few : IsFew (after (plan τ todays_rules H e []) reply [])

    -- The plan of the event is that of what is seen of the node, its commit is the node's, which is on; and each reply that it may
    -- get by that does what the node alone would do.
    pub record Follows : Type 0 where
      pub plan : plan τ todays_rules H e [] ≡ plan_by today asked H
      pub commit : (plan_by today asked H).commit ≡ option_map (λ (x : Commit × S). x.0) (commit_by today asked H)
      pub own : (x : Commit × S) → commit_by today asked H ≡ Some x → (node_of x.0 ≡ m) × (is_on m H ≡ true)
      pub replied : (reply : Reply) → MayReply n m (view_by H) (plan_by today asked H) reply → Replied reply

  -- it follows for each event of the node, on a day, at each history, if storage can show the node's record there and after
  -- the commit
  abbrev pub FollowsAlways : {D E F G : Type 0} → Kinds D E F G → (Asked C → OfDay) → (Asked C → Type 0) → (S → Type 0) → Type 0
  FollowsAlways kinds work_of IsWhole Fits = (τ : Tariff) (H : Ledger) (e : Event) (today : ℤ) (asked : Asked C) → History τ editions H → Unforged e H
      → day_in H ≡ Some today
      → IsWholeEvent e → routed (sent_in H) (quote_in τ H) e ≡ Some (route.OfDay (work_of asked)) → IsWhole asked → Fits (view_by H).state
      → IfSome (commit_by today asked H) (λ x. Fits x.1)
      → Follows kinds τ H e today asked

-- an event of a device, of the centre, of the host or of the verifier does what the node alone would do, and changes that node alone
abbrev pub DevicesFollow : {D C H V X : Type 0} → Counting D X → Kinds D C H V → (D → Type 0) → Type 0
DevicesFollow n kinds IsSound = (d : ℕ) → FollowsAlways n kinds.devices (Device d) d kinds (of_day.Device d) (λ asked. Unit {0}) IsSound

abbrev pub CentreFollows : {D C H V X : Type 0} → Counting C X → Kinds D C H V → (C → Type 0) → Type 0
CentreFollows n kinds IsSound = FollowsAlways n kinds.centre Centre tt kinds of_day.Centre AreBytes IsSound

abbrev pub HostFollows : {D C H V X : Type 0} → Counting H X → Kinds D C H V → (H → Type 0) → Type 0
HostFollows n kinds IsSound = FollowsAlways n kinds.host Host tt kinds of_day.Host (λ asked. Unit {0}) IsSound

abbrev pub VerifierFollows : {D C H V X : Type 0} → Counting V X → Kinds D C H V → (V → Type 0) → Type 0
VerifierFollows n kinds IsSound = FollowsAlways n kinds.verifier Verifier tt kinds of_day.Verifier verifier.AreBytes IsSound

-- == events of no node ==

-- what an event is answered that changes no node, by what is seen of the nodes
abbrev pub quiet_reply : {D C H V : Type 0} → Kinds D C H V → (ℕ → View D) → View C → OfDay → Option Reply
quiet_reply kinds v w of_day.Rates = None
quiet_reply kinds v w (of_day.NoMessage k) = Some (r.NoMessage k)
quiet_reply kinds v w (of_day.Reconcile d) = Some (kinds.compare d (v d) w)
quiet_reply kinds v w (of_day.Device d asked) = None
quiet_reply kinds v w (of_day.Centre asked) = None
quiet_reply kinds v w (of_day.Host asked) = None
quiet_reply kinds v w (of_day.Verifier asked) = None

-- by the ledger
abbrev pub quiet_by : {D C H V : Type 0} → Kinds D C H V → Ledger → OfDay → Option Reply
quiet_by kinds H x = quiet_reply kinds (λ d. view_in (Device d) (kinds.devices.seen d) H) (view_in Centre (kinds.centre.seen tt) H) x

-- on a day, its plan is that reply alone, where the centre's record is one that storage can show
abbrev pub OthersAreQuiet : {D C H V : Type 0} → Kinds D C H V → (C → Type 0) → Type 0
OthersAreQuiet kinds IsSound = (τ : Tariff) (H : Ledger) (e : Event) (today : ℤ) (x : OfDay) (reply : Reply) → History τ editions H → day_in H ≡ Some today
    → routed (sent_in H) (quote_in τ H) e ≡ Some (route.OfDay x) → IsSound (view_in Centre (kinds.centre.seen tt) H).state
    → quiet_by kinds H x ≡ Some reply → plan τ todays_rules H e [] ≡ refuse reply
