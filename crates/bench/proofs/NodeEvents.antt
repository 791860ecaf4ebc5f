-- What an event of one node does to the bench, whatever the kind of the node.
use Rattle.std.proofs.Common.{◌≡◌, ◌≢◌, ◌↔◌, ℕ, ℤ, ◌+◌, List, [], ◌++◌, length, Option, Some, None, refl, sym, ◌∙◌, ap, subst, arith, append-nil, true, false, true≢false}
use Rattle.std.specs.Prelude.{slice_get, slice_set, IfSome}
use Rattle.std.proofs.lemmas.Option.{slice_get_within, same_Some}
use Rattle.std.proofs.lemmas.List.{length-set}
use Rattle.bench_base.specs.declared.{words.Node.Node, words.Node.TheVariants.Device, words.Node.TheVariants.Centre, words.Node.TheVariants.Host, words.Node.TheVariants.Verifier, ledger.Commit.Commit, ledger.Entry.Entry, events.Event.Event, events.Reply.Reply}
use Rattle.bench_base.specs.declared.events.Reply.TheVariants as r
use Rattle.bench_base.specs.Rules.{todays_rules}
use Rattle.bench_base.specs.Plans.{Plan}
use Rattle.bench_base.specs.Ledger.{Ledger}
use Rattle.nv_store.specs.Mounts.{Mounts}
use Rattle.nv_store.specs.Store.{UsesCommit}
use Rattle.node_acts.specs.declared.asked.Asked.{Asked}
use Rattle.node_acts.specs.Kinds.{view_in, node_commit}
use Rattle.node_storage.specs.Stands as node
use Rattle.node_storage.specs.Stands.{StoreStands, times_of, meters_of, HasDamage, IsArmed}
use Rattle.node_turns.specs.declared.turn.Turn.{Turn}
use Rattle.node_turns.specs.Costs.{Charged}
use Rattle.node_turns.specs.NodeTurns.{NodeTurn, Switches}
use Rattle.node_turns.specs.Printing.{PrinterDid, NodePrints, print_of}
use Rattle.host_rates.specs.Laws.{KeptPrices}
use Rattle.ledger_moves.specs.Tariffs.{Tariff}
use Rattle.ledger_moves.specs.Moves as ledger
use Rattle.ledger_moves.specs.Moves.{plan}
use Rattle.bench_abstraction.specs.declared.routing.Routed.TheVariants as route
use Rattle.bench_abstraction.specs.declared.routing.OfDay.{OfDay}
use Rattle.bench_abstraction.specs.declared.routing.OfDay.TheVariants as of_day
use Rattle.bench_abstraction.specs.Tariff.{quote}
use Rattle.bench_abstraction.specs.Routing.{routed, as_given}
use Rattle.bench_abstraction.specs.Follows.{Follows, FollowsAlways}
use Rattle.bench_abstraction.proofs.Events.{same_work}
use Rattle.bench.specs.Benches.{Nodes, OneKind, OfChange, At, IsReady, Stands, devices, centre, host, verifier, BenchOf}
use Rattle.bench.specs.Outside.{Outside}
use Rattle.bench_base.specs.Replies.{tells_failure}
use Rattle.bench_base.specs.Events.{IsWholeEvent}
use Rattle.bench.specs.Steps.{notes_in, Steps, StepsByViews, DoesAsked, ShowsLedger, HoldsImage, after_stop}
use Rattle.bench.proofs.Events.{IsOfNode, no_day}
use Rattle.bench.proofs.EachKind.{OthersRest}
use Rattle.bench.proofs.OneNode as one
use Rattle.bench_abstraction.proofs.RatesPlans.{taken_by}
use Rattle.bench.proofs.OneTurn.{NodeDid, NodeDidOn, at_alone, at_unwritten, at_damaged, at_on}
use Rattle.bench.proofs.Sets.{get_set_same, get_set_other, set_there, same_some}

-- == the node of an event, in its place ==

module _ (n : Nodes) (old new : BenchOf n) where
  -- node m, which is d of this kind, was s and is t: what holds of that holds at m, and it stands as m does
  pub record IsAt (m : Node) (o : OneKind n.Storage) (d : o.Name) (s t : o.Own) : Type 1 where
    pub put : (P : OfChange n.Storage) → P o m d s t → At n P old new m
    pub stood : (L : Ledger) → Stands n old L → node.Stands o.ghosts n.storage d (view_in m (o.kind.seen d) L) s
    pub rest : OthersRest m old new
    pub same : t ≡ s → (sent : List (List ℕ)) → new.messages ≡ sent → new ≡ record old { messages = sent }

  pub at_centre : new.day ≡ old.day → new.rates ≡ old.rates → new.devices ≡ old.devices → new.host ≡ old.host → new.verifier ≡ old.verifier → IsAt Centre (centre n) tt old.centre new.centre
  at_centre day rates devices host verifier = record {
    put = λ P p. p;
    stood = λ L stands. stands.nodes Centre;
    rest = record {
      day = day;
      rates = rates;
      size = ap length devices;
      devices = λ i s t differs was is. same_some s t (slice_get old.devices i) (slice_get new.devices i) (ap (λ (l : List n.Devices). slice_get l i) (sym devices)) was is;
      centre = λ differs. absurd (differs refl);
      host = λ differs. host;
      verifier = λ differs. verifier;
    };
    same = λ same sent now_is k. record { day = day k; messages = now_is k; rates = rates k; devices = devices k; centre = same k; host = host k; verifier = verifier k };
  }

  pub at_host : new.day ≡ old.day → new.rates ≡ old.rates → new.devices ≡ old.devices → new.centre ≡ old.centre → new.verifier ≡ old.verifier → IsAt Host (host n) tt old.host new.host
  at_host day rates devices centre verifier = record {
    put = λ P p. p;
    stood = λ L stands. stands.nodes Host;
    rest = record {
      day = day;
      rates = rates;
      size = ap length devices;
      devices = λ i s t differs was is. same_some s t (slice_get old.devices i) (slice_get new.devices i) (ap (λ (l : List n.Devices). slice_get l i) (sym devices)) was is;
      centre = λ differs. centre;
      host = λ differs. absurd (differs refl);
      verifier = λ differs. verifier;
    };
    same = λ same sent now_is k. record { day = day k; messages = now_is k; rates = rates k; devices = devices k; centre = centre k; host = same k; verifier = verifier k };
  }

  pub at_verifier : new.day ≡ old.day → new.rates ≡ old.rates → new.devices ≡ old.devices → new.centre ≡ old.centre → new.host ≡ old.host → IsAt Verifier (verifier n) tt old.verifier new.verifier
  at_verifier day rates devices centre host = record {
    put = λ P p. p;
    stood = λ L stands. stands.nodes Verifier;
    rest = record {
      day = day;
      rates = rates;
      size = ap length devices;
      devices = λ i s t differs was is. same_some s t (slice_get old.devices i) (slice_get new.devices i) (ap (λ (l : List n.Devices). slice_get l i) (sym devices)) was is;
      centre = λ differs. centre;
      host = λ differs. host;
      verifier = λ differs. absurd (differs refl);
    };
    same = λ same sent now_is k. record { day = day k; messages = now_is k; rates = rates k; devices = devices k; centre = centre k; host = host k; verifier = same k };
  }

  -- the device in a place, which was set
  module _ (d place : ℕ) (s t : n.Devices) (is_device : d ≡ place + 1) (was : slice_get old.devices place ≡ Some s) (set : new.devices ≡ slice_set old.devices place t) where
    now_is : slice_get new.devices place ≡ Some t
    now_is = ap (λ (l : List n.Devices). slice_get l place) set ∙ get_set_same old.devices place t (slice_get_within old.devices place s was)

    others_stay : (i : ℕ) → i ≢ place → slice_get new.devices i ≡ slice_get old.devices i
    others_stay i differs = ap (λ (l : List n.Devices). slice_get l i) set ∙ get_set_other old.devices place t i differs

    elsewhere : (i : ℕ) → Device (i + 1) ≢ Device d → i ≢ place
    elsewhere i differs same = differs (ap Device (omega (arith, same, is_device)))

    pub here : (P : n.Devices → n.Devices → Type 0) → P s t → (i : ℕ) (a b : n.Devices) → d ≡ i + 1 → slice_get old.devices i ≡ Some a → slice_get new.devices i ≡ Some b → P a b
    here P holds = λ i a b next there now.
        let at : i ≡ place = omega (arith, next, is_device) in
        let before : s ≡ a = same_some a s (slice_get old.devices i) (slice_get old.devices place) (ap (λ (k : ℕ). slice_get old.devices k) at) there was in
        let after : t ≡ b = same_some b t (slice_get new.devices i) (slice_get new.devices place) (ap (λ (k : ℕ). slice_get new.devices k) at) now now_is in
        subst (λ (u : n.Devices). P u b) before (subst (λ (u : n.Devices). P s u) after holds)

    pub at_device : new.day ≡ old.day → new.rates ≡ old.rates → new.centre ≡ old.centre → new.host ≡ old.host → new.verifier ≡ old.verifier → IsAt (Device d) (devices n) d s t
    at_device day rates centre host verifier = record {
      put = λ P p. here (P (devices n) (Device d) d) p;
      stood = λ L stands. stands.nodes (Device d) place s is_device was;
      rest = record {
        day = day;
        rates = rates;
        size = ap length set ∙ length-set old.devices place t;
        devices = λ i a b differs there now. same_some a b (slice_get old.devices i) (slice_get new.devices i) (sym (others_stay i (elsewhere i differs))) there now;
        centre = λ differs. centre;
        host = λ differs. host;
        verifier = λ differs. verifier;
      };
      same = λ same sent now_is k. record {
        day = day k;
        messages = now_is k;
        rates = rates k;
        devices = (set ∙ ap (λ (u : n.Devices). slice_set old.devices place u) same ∙ set_there old.devices place s was) k;
        centre = centre k;
        host = host k;
        verifier = verifier k;
      };
    }

-- == what it does to the bench ==

-- a reply of a failure reports a failure
not_failed : {P : Type 0} (reply failure : Reply) → reply ≡ failure → tells_failure failure ≡ true → tells_failure reply ≡ false → P
not_failed reply failure is tells fine = absurd (true≢false (sym tells ∙ sym (ap tells_failure is) ∙ fine))

module _ (n : Nodes) (e x : Event) (today : ℤ) (old new : BenchOf n) (turn : Turn)
    (before now : Outside) (m : Node) (o : OneKind n.Storage) (d : o.Name) (asked : Asked o.Call) (s t : o.Own) where
  -- the event asks this of a node that is on the bench, and came to this turn of it
  pub record IsAsked (work_of : Asked o.Call → OfDay) : Type 1 where
    pub located : IsAt n old new m o d s t
    pub did : NodeTurn o.ghosts n.storage n.fuse o.kind m d today x asked s t turn
    pub given : as_given old.messages e ≡ x
    pub of : IsOfNode m x
    pub dated : old.day ≡ Some today
    pub taken_is : routed old.messages (quote old.rates) e ≡ Some (route.OfDay (work_of asked))
    pub told : (k : ℕ) → of_day.NoMessage k ≡ work_of asked → ⊥
    pub sends : new.messages ≡ old.messages ++ notes_in turn.entries
    pub feed : now.rates ≡ before.rates
    pub prints : NodePrints o.ghosts n.storage o.kind m d today asked s turn.reply before.printer now.printer
    pub does : n.storage.tells → DoesAsked n today turn old new before now (work_of asked)

  module _ (work_of : Asked o.Call → OfDay) (is : IsAsked work_of) where
    did : NodeDid n m e x turn old new before now
    did = record {
      given = is.given;
      of = is.of;
      rest = is.located.rest;
      sends = is.sends;
      dated = λ none. no_day old.day today none is.dated;
      reply = is.did.reply;
      on_day = is.did.on_day;
      refused = λ refusal.
          let left = is.did.refused refusal in
          let unsent : new.messages ≡ old.messages = is.sends ∙ ap (λ (l : List (Option Entry)). old.messages ++ notes_in l) left.1 ∙ append-nil old.messages in
          (is.located.same left.0 old.messages unsent, left.1);
      adds = is.did.adds;
      uses = λ c made. let told = is.did.uses c made in
          (told.0, is.located.put (λ o i d s t. UsesCommit (meters_of o.ghosts n.storage s).fuse (meters_of o.ghosts n.storage t).fuse) told.1);
      untouched = λ calls fine none.
          is.located.same (is.did.untouched calls (λ lost. not_failed turn.reply _ lost refl fine) (λ failed. not_failed turn.reply _ failed refl fine) none) (old.messages ++ notes_in turn.entries) is.sends;
      there = λ k none. is.told k (same_work (sym none ∙ is.taken_is));
      feed = is.feed;
      mark = is.prints.mark;
      printer = is.prints.alone;
      switches = is.located.put (λ o i d s t. Switches i x turn.reply (o.ghosts.is_on s) (o.ghosts.is_on t)) is.did.switches;
      charged = is.located.put (λ o i d s t. Charged i x turn.reply (meters_of o.ghosts n.storage s) (meters_of o.ghosts n.storage t)) is.did.charged;
      armed = λ calls keep byte cut. is.located.put (λ o i d s t. IsArmed o.ghosts n.fuse t calls keep byte) (is.did.armed calls keep byte cut);
      unwritten = λ tells none. is.located.put (λ o i d s t. Mounts (times_of o.ghosts n.storage s) (times_of o.ghosts n.storage t)) (is.did.unwritten tells none);
      found = λ tells on read. is.located.put (λ o i d s t. (turn.reply ≡ r.Damaged i) ↔ HasDamage o.ghosts d t) (is.did.found tells on read);
    }

    shown : n.storage.tells → StepsByViews n e turn old new before now
    shown tells = record {
      does = λ u y day taken_is.
          let when : today ≡ u = same_Some _ _ (sym is.dated ∙ day) in
          let what : work_of asked ≡ y = same_work (sym is.taken_is ∙ taken_is) in
          subst (λ (j : ℤ). DoesAsked n j turn old new before now y) when (subst (λ (z : OfDay). DoesAsked n today turn old new before now z) what (is.does tells));
      unwritten = at_unwritten n m e x turn old new before now did tells;
      damaged = at_damaged n m e x turn old new before now did tells;
    }

    module _ (τ : Tariff) (L : Ledger) (stands : Stands n old L) (tells : n.storage.tells) (law : Follows o.ghosts.counting o.kind m d n.kinds τ L e today asked) where
      st : node.Stands o.ghosts n.storage d (view_in m (o.kind.seen d) L) s
      st = is.located.stood L stands

      on : NodeDidOn n m e x turn old new before now τ L
      on = record {
        moves = (one.done o.ghosts n.storage n.fuse o.kind m d today e x asked s t turn is.did n.kinds τ L st tells law).moves;
        entries = one.adds o.ghosts n.storage n.fuse o.kind m d today e x asked s t turn is.did n.kinds τ L st tells law;
        stands = is.located.put (λ o i d s t. node.Stands o.ghosts n.storage d (view_in i (o.kind.seen d) (ledger.entries τ todays_rules L e [] turn.reply)) t)
            (one.stands_now o.ghosts n.storage n.fuse o.kind m d today e x asked s t turn is.did n.kinds τ L st tells law);
        others = (one.done o.ghosts n.storage n.fuse o.kind m d today e x asked s t turn is.did n.kinds τ L st tells law).others;
        rests = (one.done o.ghosts n.storage n.fuse o.kind m d today e x asked s t turn is.did n.kinds τ L st tells law).rests;
        sent = one.sends o.ghosts n.storage n.fuse o.kind m d today e x asked s t turn is.did n.kinds τ L st tells law;
        closes = one.closes o.ghosts n.storage n.fuse o.kind m d today e x asked s t turn is.did n.kinds τ L st tells law;
        shows = is.located.put (λ o i d. ShowsLedger o.ghosts n.storage (o.kind.seen d) i τ L e []) (one.shows o.ghosts n.storage n.fuse o.kind m d today e x asked s t turn is.did n.kinds τ L st tells law);
        open_others = one.open_others o.ghosts n.storage n.fuse o.kind m d today e x asked s t turn is.did n.kinds τ L st tells law;
        left = is.located.put (λ o i d s t. (store : n.Inner) → n.inner.size store ≡ o.ghosts.bytes → HoldsImage o.ghosts n.storage n.inner s t store → StoreStands o.ghosts n.inner d (view_in i (o.kind.seen d) (after_stop τ L e [])) store)
            (λ store size images. one.left o.ghosts n.storage n.fuse o.kind m d today e x asked s t turn is.did n.kinds τ L st tells law n.inner store size images);
        printed = subst (λ (p : Plan). PrinterDid turn.reply (print_of p.after) before.printer now.printer) (sym law.plan) (is.prints.by_view (view_in m (o.kind.seen d) L) st tells);
      }

    each_some : {P Q : o.ghosts.Seen → Type 0} → ((k : o.ghosts.Seen) → P k → Q k) → (c : Option (Commit × o.ghosts.Seen)) → IfSome c (λ y. P y.1) → IfSome c (λ y. Q y.1)
    each_some f None holds = tt
    each_some f (Some y) holds = f y.1 holds

    pub steps : IsWholeEvent e → IsReady old → KeptPrices → (IsWhole : Asked o.Call → Type 0) → IsWhole asked
        → (IsKnown : o.ghosts.Seen → Type 0) → ((k : o.ghosts.Seen) → o.ghosts.IsSound d k → IsKnown k)
        → FollowsAlways o.ghosts.counting o.kind m d n.kinds work_of IsWhole IsKnown → Steps n e [] turn old new before now
    steps whole ready prices IsWhole bytes IsKnown knows follows = record {
      history = λ τ L texts history unforged stands tells.
          let v = view_in m (o.kind.seen d) L in
          let st = is.located.stood L stands in
          let law = follows τ L e today asked history unforged (sym stands.day.day ∙ is.dated) whole
          (taken_by τ prices texts L old.messages old.rates e (route.OfDay (work_of asked)) stands.day.messages stands.day.rates is.taken_is) bytes
          (knows v.state ((st.store.sound tells).state)) (each_some (λ k next. knows k next.0) (node_commit (o.kind.commit d today v) asked) (is.did.keeps v st tells)) in
          at_on n m e x turn old new before now did τ L (on τ L stands tells law) history unforged whole ready stands tells;
      shown = shown;
      always = at_alone n m e x turn old new before now did;
    }
