-- Events that leave the nodes as they are.
use Rattle.std.proofs.Common.{◌≡◌, ◌≢◌, inl, ℕ, ℤ, List, [], ◌∷◌, ◌++◌, Option, Some, None, true, false, ◌↔◌, refl, sym, ◌∙◌, ap, subst, append-nil, true≢false}
use Rattle.std.specs.Prelude.{IsSome}
use Rattle.bench_base.specs.declared.{words.Node.Node, ledger.Commit.Commit, ledger.Entry.Entry, events.Event.Event, events.Reply.Reply}
use Rattle.bench_base.specs.declared.ledger.Entry.TheVariants as entry
use Rattle.bench_base.specs.declared.events.Event.TheVariants as ev
use Rattle.bench_base.specs.declared.events.Reply.TheVariants as r
use Rattle.bench_base.specs.Events.{needs_day, node_for, day_after, IsWholeEvent}
use Rattle.bench_base.specs.Replies.{tells_power, tells_fault, has_read, is_refusal, MayGet}
use Rattle.bench_base.specs.Rules.{todays_rules, editions}
use Rattle.bench_base.specs.Ledger.{Ledger, torn_of}
use Rattle.nv_store.specs.Mounts.{Mounts}
use Rattle.node_acts.specs.Kinds.{view_in}
use Rattle.node_acts.specs.Plans.{after}
use Rattle.node_storage.specs.Stands as node
use Rattle.node_storage.specs.Stands.{times_of, meters_of}
use Rattle.node_storage.proofs.Rests.{mounts_none}
use Rattle.node_turns.specs.declared.turn.Turn.{Turn}
use Rattle.node_turns.specs.Adds.{Adds}
use Rattle.node_turns.specs.NodeTurns.{Switches, OnlyCalls}
use Rattle.node_turns.specs.Turns.{in_order, made_in, turn_of}
use Rattle.ledger_moves.specs.Tariffs.{Tariff}
use Rattle.ledger_moves.specs.Histories.{History, Unforged}
use Rattle.ledger_moves.specs.Moves.{Moves, plan}
use Rattle.bench_abstraction.specs.declared.routing.Routed.TheVariants as route
use Rattle.bench_abstraction.specs.declared.routing.OfDay.{OfDay}
use Rattle.bench_abstraction.specs.declared.routing.OfDay.TheVariants as of_day
use Rattle.bench_abstraction.specs.Tariff.{IsOfTexts, quote}
use Rattle.bench_abstraction.specs.Routing.{routed, as_given}
use Rattle.bench_abstraction.proofs.Events.{same_work}
use Rattle.bench.specs.Benches.{Bench, Places, Nodes, OfState, OfChange, Of, At, IsReady, Stands, StoresStand, BenchOf}
use Rattle.bench.specs.Outside.{Outside, ReadsRates}
use Rattle.bench.specs.Steps.{Steps, StepsOn, StepsByViews, StepsAlone, DoesAsked, FindsOff, ShowsLedger, AreLeft, StayClosed, Leaves, notes_in, sending, with_open, after_stop}
use Rattle.bench.proofs.Charges.{rests_charged}
use Rattle.bench.proofs.EachKind.{AllRest, of_all, of_with, still}
use Rattle.bench.proofs.Left.{rest_stopped}
use Rattle.bench.proofs.Stops.{stop_history}
use Rattle.bench.proofs.Unprinted.{IsUnprinted, prints_nothing}

-- == where nothing is sent ==

sending_none : {D C H V : Type 0} (t : Turn) (b : Bench D C H V) → notes_in t.entries ≡ [] → sending t b ≡ b
sending_none t b none = λ k. record b { messages = (ap (λ (l : List (List ℕ)). b.messages ++ l) none ∙ append-nil b.messages) k }

none_some : {A P : Type 0} {o : Option A} (a : A) → o ≡ None → o ≡ Some a → P
none_some a none some = let wrong : None ≡ Some a = sym none ∙ some in cc

-- == an event that leaves the nodes as they are ==

module _ (n : Nodes) (e x : Event) (text : List ℕ)
    (reply : Reply) (told : List Entry) (old new : BenchOf n) (before now : Outside) where
  abbrev turn : Turn
  turn = turn_of reply told

  -- by a ledger that the bench represents: the reply is a move that commits nothing and adds these entries
  pub record QuietOn (τ : Tariff) (L : Ledger) : Type 0 where
    pub moves : Moves τ todays_rules L e text reply
    pub silent : (plan τ todays_rules L e text).commit ≡ None
    pub adds : (K : Ledger) → after (plan τ todays_rules L e text) reply K ≡ told ++ K
    pub stands : Stands n new (told ++ L)
    pub still : (k : Node) → torn_of k (told ++ L) ≡ torn_of k L

  -- by what the storages show
  pub record QuietShown : Type 0 where
    pub does : (today : ℤ) (y : OfDay) → old.day ≡ Some today → routed old.messages (quote old.rates) e ≡ Some (route.OfDay y) → DoesAsked n today turn old new before now y
    pub not_read : has_read reply ≡ false

  -- by what is routed of the event
  pub asking : (x : OfDay) → routed old.messages (quote old.rates) e ≡ Some (route.OfDay x) → ((today : ℤ) → old.day ≡ Some today → DoesAsked n today turn old new before now x) → has_read reply ≡ false → QuietShown
  asking x is does not_read = record {
    does = λ today y day taken_is. let same : x ≡ y = same_work (sym is ∙ taken_is) in subst (λ (z : OfDay). DoesAsked n today turn old new before now z) same (does today day);
    not_read = not_read;
  }

  abbrev pub SwitchesIs : OfState n.Storage
  SwitchesIs o i d s = IsSome old.day → node_for x ≡ Some i → ((k : ℕ) → reply ≢ r.NoMessage k) → Switches i x reply (o.ghosts.is_on s) (o.ghosts.is_on s)

  -- whether or not the storages expose their contents; the event is given as x
  pub record QuietAlone : Type 0 where
    pub given : as_given old.messages e ≡ x
    pub power : (i : Node) → tells_power i reply ≡ false
    pub fault : (i : Node) → tells_fault i reply ≡ false
    pub gets : MayGet x reply
    pub says : Adds x reply (in_order told)
    pub unmade : made_in (in_order told) ≡ None
    pub day : needs_day e ≡ true → (reply ≡ r.NoDay) ↔ (old.day ≡ None)
    pub dated : new.day ≡ day_after e old.day
    pub dates : (t : ℤ) → e ≡ ev.Day t → turn ≡ turn_of (r.Day t) (entry.Day t ∷ [])
    pub ends : e ≡ ev.End → (new ≡ old) × (turn ≡ turn_of r.End [])
    pub compares : (d : ℕ) → e ≡ ev.Reconcile d → (new ≡ old) × (told ≡ []) × FindsOff n d reply old
    pub message : (k : ℕ) → routed old.messages (quote old.rates) e ≡ Some (route.OfDay (of_day.NoMessage k)) → IsSome old.day → reply ≡ r.NoMessage k
    pub unsent : notes_in (in_order told) ≡ []
    pub refused : is_refusal reply ≡ true → (new ≡ old) × (told ≡ [])
    pub untouched : OnlyCalls x → new ≡ old
    pub switches : (m : Node) → Of n SwitchesIs old m
    pub unarmed : IsSome old.day → (m : Node) (calls keep byte : ℕ) → x ≡ ev.Cut m calls keep byte → ⊥
    pub rates : ReadsRates e text turn old.day old.rates new.rates before.rates now.rates
    pub printer : now.printer ≡ before.printer
    pub prints : IsUnprinted reply

  module _ (rest : AllRest old new) (unsent : new.messages ≡ old.messages) (ready : IsReady old) (whole : IsWholeEvent e) (alone : QuietAlone) where
    -- == by a ledger ==

    module _ (τ : Tariff) (L : Ledger) (on : QuietOn τ L) (history : History τ editions L) (stands : Stands n old L) (tells : n.storage.tells) where
      abbrev StandsIs : OfState n.Storage
      StandsIs o i d s = node.Stands o.ghosts n.storage d (view_in i (o.kind.seen d) L) s

      abbrev ShowsIs : OfChange n.Storage
      ShowsIs o i d s t = ShowsLedger o.ghosts n.storage (o.kind.seen d) i τ L e text s t

      shows : (m : Node) → At n ShowsIs old new m
      shows m = still n old new rest ShowsIs m (of_with n StandsIs (λ o i d s. ShowsIs o i d s s) old (λ o i d s st image since. inl (st.store.shows tells image since)) m (stands.nodes m))

      -- where the process is stopped within it
      left : (stores : Places n.Inner) → AreLeft n old new stores → StoresStand n stores (after_stop τ L e text)
      left stores are = subst (λ (o : Option Commit). StoresStand n stores (entry.Begin ∷ with_open o L)) (sym on.silent) (rest_stopped n old new rest ready L stands tells stores are)

      quiet_on : Unforged e L → StepsOn n τ L e text turn old new before now
      quiet_on unforged = record {
        moves = on.moves;
        entries = ap in_order (sym (append-nil told) ∙ sym (on.adds []));
        stands = subst (λ (M : Ledger). Stands n new M) (sym (on.adds L)) on.stands;
        closed = λ fine. subst (λ (M : Ledger). StayClosed L M) (sym (on.adds L)) (λ k none. on.still k ∙ none);
        any_moment = shows;
        stopped = λ stores are. (stop_history τ L e text history whole unforged, left stores are);
        printed = prints_nothing reply _ before.printer now.printer alone.printer alone.prints;
      }

    -- == by what the storages show ==

    quiet_shown : QuietShown → StepsByViews n e turn old new before now
    quiet_shown shown = record {
      does = shown.does;
      unwritten = λ none m. still n old new rest (λ o i d s t. Mounts (times_of o.ghosts n.storage s) (times_of o.ghosts n.storage t)) m
          (of_all n (λ o i d s. Mounts (times_of o.ghosts n.storage s) (times_of o.ghosts n.storage s)) old (λ o i d s. mounts_none (times_of o.ghosts n.storage s)) m);
      damaged = λ m on read. absurd (true≢false (sym read ∙ shown.not_read));
    }

    -- == whether or not the storages expose their contents ==

    leaves : (m : Node) → At n (λ o i d. Leaves o.ghosts n.storage n.fuse i x old.day reply) old new m
    leaves m = still n old new rest (λ o i d. Leaves o.ghosts n.storage n.fuse i x old.day reply) m
        (of_with n SwitchesIs (λ o i d s. Leaves o.ghosts n.storage n.fuse i x old.day reply s s) old (λ o i d s switches. record {
          switches = switches;
          charged = rests_charged i x reply (meters_of o.ghosts n.storage s) (alone.power i) (alone.fault i);
          armed = λ some calls keep byte is. absurd (alone.unarmed some i calls keep byte is);
          rests = λ not. refl;
        }) m (alone.switches m))

    quiet_alone : StepsAlone n e text turn old new before now
    quiet_alone = record {
      reply = subst (λ (y : Event). MayGet y reply) (sym alone.given) alone.gets;
      day = alone.day;
      dated = alone.dated;
      dates = alone.dates;
      ends = alone.ends;
      compares = λ d is. let left = alone.compares d is in (left.0, ap in_order left.1, left.2);
      message = alone.message;
      sends = unsent ∙ sym (append-nil old.messages) ∙ ap (λ (l : List (List ℕ)). old.messages ++ l) (sym alone.unsent);
      refused = λ is. let left = alone.refused is in (left.0, ap in_order left.1);
      adds = subst (λ (y : Event). Adds y reply (in_order told)) (sym alone.given) alone.says;
      quiet = λ none. alone.unsent;
      uses = λ c made. none_some c alone.unmade made;
      untouched = λ calls fine none.
          alone.untouched (subst (λ (y : Event). OnlyCalls y) alone.given calls) ∙ sym (sending_none turn old alone.unsent);
      nodes = λ m. subst (λ (y : Event). At n (λ o i d. Leaves o.ghosts n.storage n.fuse i y old.day reply) old new m) (sym alone.given) (leaves m);
      rates = alone.rates;
      printer = (None, prints_nothing reply None before.printer now.printer alone.printer alone.prints);
    }

    pub quiet : ((τ : Tariff) (L : Ledger) → IsOfTexts τ → History τ editions L → Stands n old L → n.storage.tells → QuietOn τ L) → (n.storage.tells → QuietShown) → Steps n e text turn old new before now
    quiet on shown = record {
      history = λ τ L texts history unforged stands tells. quiet_on τ L (on τ L texts history stands tells) history stands tells unforged;
      shown = λ tells. quiet_shown (shown tells);
      always = quiet_alone;
    }

-- == with what it sends ==

pub as_sent : (n : Nodes) (e : Event) (text : List ℕ) (turn : Turn)
    (old new : BenchOf n) (before now : Outside) → notes_in turn.entries ≡ [] → Steps n e text turn old new before now → Steps n e text turn old (sending turn new) before now
as_sent n e text turn old new before now none steps = subst (λ (b : BenchOf n). Steps n e text turn old b before now) (sym (sending_none turn new none)) steps
