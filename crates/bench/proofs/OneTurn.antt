-- An event of one node leaves the others as they were; so what it does to the bench follows from what it does to the node.
use Rattle.std.proofs.Common.{◌≡◌, ◌≢◌, inl, ⊎_elim, ℕ, zero, suc, List, [], ◌∷◌, ◌++◌, length, Option, Some, None, true, false, ◌↔◌, refl, sym, ◌∙◌, ap, subst, arith}
use Rattle.std.specs.Prelude.{◌≤◌, option_map, Result, Ok, Err, IfOk}
use Rattle.std.proofs.lemmas.Option.{slice_get_within}
use Rattle.bench_base.specs.declared.{words.Node.Node, words.Node.TheVariants.Device, words.Node.TheVariants.Centre, words.Node.TheVariants.Host, words.Node.TheVariants.Verifier, ledger.Commit.Commit, events.Event.Event}
use Rattle.bench_base.specs.declared.events.Event.TheVariants as ev
use Rattle.bench_base.specs.declared.events.Reply.TheVariants as r
use Rattle.bench_base.specs.Events.{node_for, may_commit, IsWholeEvent}
use Rattle.bench_base.specs.Replies.{is_refusal, has_read, tells_power, tells_fault, MayGet, tells_failure}
use Rattle.bench_base.specs.Nodes.{node_of}
use Rattle.bench_base.specs.Rules.{todays_rules, editions}
use Rattle.bench_base.specs.Ledger.{Ledger, torn_of, counted, is_on, rates_in}
use Rattle.nv_store.specs.Mounts.{Mounts}
use Rattle.node_acts.specs.Kinds.{view_in}
use Rattle.node_acts.specs.Plans.{after}
use Rattle.node_acts.specs.Views.{View}
use Rattle.node_storage.specs.Stands as node
use Rattle.node_storage.specs.Stands.{StoreStands, times_of, meters_of, HasDamage, IsArmed}
use Rattle.node_storage.proofs.Rests.{mounts_none}
use Rattle.node_turns.specs.declared.turn.Turn.{Turn}
use Rattle.node_turns.specs.Adds.{Adds}
use Rattle.node_turns.specs.Costs.{Charged}
use Rattle.node_turns.specs.NodeTurns.{Switches, OnlyCalls}
use Rattle.node_turns.specs.Printing.{PrinterDid, print_of}
use Rattle.node_turns.specs.Turns.{in_order, made_in}
use Rattle.bench.proofs.Notes.{sends_none}
use Rattle.host_rates.specs.Tables.{RateTable}
use Rattle.host_rates.specs.Tariffs.{Keeps}
use Rattle.ledger_moves.specs.Tariffs.{Tariff}
use Rattle.ledger_moves.specs.Histories.{History, Unforged}
use Rattle.ledger_moves.specs.Moves as ledger
use Rattle.ledger_moves.specs.Moves.{Moves, plan}
use Rattle.bench_abstraction.specs.declared.routing.Routed.TheVariants as route
use Rattle.bench_abstraction.specs.declared.routing.OfDay.TheVariants as of_day
use Rattle.bench_abstraction.specs.Tariff.{quote}
use Rattle.bench_abstraction.specs.Routing.{routed, as_given}
use Rattle.bench_abstraction.specs.Messages.{sent_in}
use Rattle.bench_abstraction.specs.Follows.{OthersStay, Rests}
use Rattle.bench.specs.Benches.{Places, Nodes, OneKind, OfState, OfChange, At, Of, By, IsReady, Stands, StoresStand, StoreStandsOff, store_of, devices, centre, host, verifier, BenchOf}
use Rattle.bench.specs.Outside.{Feed, Outside}
use Rattle.bench.specs.Steps.{Steps, StepsOn, StepsAlone, ShowsLedger, HoldsImage, AreLeft, StayClosed, Leaves, UsesFuse, notes_in, sending, with_open, after_stop}
use Rattle.bench.proofs.Events.{IsOfNode, NeedsAlike, given_alike, node_is, untold, same_or_not}
use Rattle.bench.proofs.EachKind.{OthersRest, of_all, of_with, of_by, at_both, stays, walk}
use Rattle.bench.proofs.Making.{get_some}
use Rattle.bench.proofs.OneNode.{rest_left, none_mapped}
use Rattle.bench.proofs.Over.{none_day}
use Rattle.bench.proofs.Charges.{rests_charged}
use Rattle.bench.proofs.Stops.{stop_history}

-- a node that is seen as before has no more open commits
still_closed : {S : Type 0} (k : Node) (seen : List Commit → S) (H L : Ledger) → view_in k seen L ≡ view_in k seen H → torn_of k H ≡ None → torn_of k L ≡ None
still_closed {S} k seen H L same none =
    none_mapped (λ c. seen (c ∷ counted L)) (torn_of k L) (ap (λ (w : View S). w.next) same ∙ ap (λ (o : Option Commit). option_map (λ c. seen (c ∷ counted H)) o) none)

module _ (n : Nodes) where
  -- of node k the same is seen as before
  abbrev pub SeenSame : Ledger → Ledger → Node → Type 0
  SeenSame L M k = By n (λ o i d. view_in i (o.kind.seen d) M ≡ view_in i (o.kind.seen d) L) k

  pub seen_same : (m : Node) (L M : Ledger) → OthersStay n.kinds m L M → (k : Node) → k ≢ m → SeenSame L M k
  seen_same m L M stay (Device d) differs = stay.devices d differs
  seen_same m L M stay Centre differs = stay.centre differs
  seen_same m L M stay Host differs = stay.host differs
  seen_same m L M stay Verifier differs = stay.verifier differs

  closed_same : (L M : Ledger) (k : Node) → SeenSame L M k → torn_of k L ≡ None → torn_of k M ≡ None
  closed_same L M (Device d) same none = still_closed (Device d) (n.kinds.devices.seen d) L M same none
  closed_same L M Centre same none = still_closed Centre (n.kinds.centre.seen tt) L M same none
  closed_same L M Host same none = still_closed Host (n.kinds.host.seen tt) L M same none
  closed_same L M Verifier same none = still_closed Verifier (n.kinds.verifier.seen tt) L M same none

  -- what is left of a node in its place
  pub left_in : (old new : BenchOf n) (stores : Places n.Inner) (L : Ledger) → IsReady old → length new.devices ≡ length old.devices → length stores.devices ≡ 8
      → (m : Node) (store : n.Inner) → store_of stores m ≡ Some store → is_on m L ≡ false → At n (λ o i d s t. StoreStands o.ghosts n.inner d (view_in i (o.kind.seen d) L) store) old new m
      → StoreStandsOff n L store m
  left_in old new stores L ready size eight (Device zero) store there off at = absurd (none_some there)
    where
      none_some : ◌≡◌ {A = Option _} None (Some store) → ⊥
      none_some is = cc
  left_in old new stores L ready size eight (Device (suc i)) store there off at =
      let lt = slice_get_within stores.devices i store there in
      let s = get_some old.devices i (omega (arith, lt, eight, ready.eight)) in
      let t = get_some new.devices i (omega (arith, lt, eight, ready.eight, size)) in
      (off, at i s.0 t.0 (omega arith) s.1 t.1)
  left_in old new stores L ready size eight Centre store there off at = (off, at)
  left_in old new stores L ready size eight Host store there off at = (off, at)
  left_in old new stores L ready size eight Verifier store there off at = (off, at)

module _ (n : Nodes) (m : Node) (e x : Event) (turn : Turn) (old new : BenchOf n)
    (before now : Outside) where
  -- what node m did in event e, given to it as x, whether or not the storages expose their contents
  pub record NodeDid : Type 0 where
    pub given : as_given old.messages e ≡ x
    pub of : IsOfNode m x
    pub rest : OthersRest m old new
    pub sends : new.messages ≡ old.messages ++ notes_in turn.entries
    pub dated : old.day ≡ None → ⊥
    pub reply : MayGet x turn.reply
    pub on_day : turn.reply ≢ r.NoDay
    pub refused : is_refusal turn.reply ≡ true → (new ≡ old) × (turn.entries ≡ in_order [])
    pub adds : Adds x turn.reply turn.entries
    pub uses : (c : Commit) → made_in turn.entries ≡ Some c → (node_of c ≡ m) × UsesFuse n m old new
    pub untouched : OnlyCalls x → tells_failure turn.reply ≡ false → made_in turn.entries ≡ None → new ≡ sending turn old
    pub there : (k : ℕ) → routed old.messages (quote old.rates) e ≡ Some (route.OfDay (of_day.NoMessage k)) → ⊥
    pub feed : now.rates ≡ before.rates
    pub mark : Option (List ℕ)
    pub printer : PrinterDid turn.reply mark before.printer now.printer
    pub switches : At n (λ o i d s t. Switches i x turn.reply (o.ghosts.is_on s) (o.ghosts.is_on t)) old new m
    pub charged : At n (λ o i d s t. Charged i x turn.reply (meters_of o.ghosts n.storage s) (meters_of o.ghosts n.storage t)) old new m
    pub armed : (calls keep byte : ℕ) → x ≡ ev.Cut m calls keep byte → At n (λ o i d s t. IsArmed o.ghosts n.fuse t calls keep byte) old new m
    pub unwritten : n.storage.tells → may_commit x ≡ false → At n (λ o i d s t. Mounts (times_of o.ghosts n.storage s) (times_of o.ghosts n.storage t)) old new m
    pub found : n.storage.tells → x ≡ ev.On m → has_read turn.reply ≡ true → At n (λ o i d s t. (turn.reply ≡ r.Damaged i) ↔ HasDamage o.ghosts d t) old new m

  module _ (did : NodeDid) where
    -- == whether or not the storages expose their contents ==

    abbrev ChargedIs : OfChange n.Storage
    ChargedIs o i d s t = Charged i x turn.reply (meters_of o.ghosts n.storage s) (meters_of o.ghosts n.storage t)

    charged_at : (k : Node) → At n ChargedIs old new k
    charged_at = walk n m old new did.rest ChargedIs did.charged (λ j differs. let none = untold m x j turn.reply did.of did.reply differs in rests j none.0 none.1)
      where
        rests : (j : Node) → tells_power j turn.reply ≡ false → tells_fault j turn.reply ≡ false → Of n (λ o i d s. ChargedIs o i d s s) old j
        rests (Device d) power fault = λ i s next was. rests_charged (Device d) x turn.reply (meters_of n.devices n.storage s) power fault
        rests Centre power fault = rests_charged Centre x turn.reply (meters_of n.centre n.storage old.centre) power fault
        rests Host power fault = rests_charged Host x turn.reply (meters_of n.host n.storage old.host) power fault
        rests Verifier power fault = rests_charged Verifier x turn.reply (meters_of n.verifier n.storage old.verifier) power fault

    alike : NeedsAlike e x
    alike = subst (NeedsAlike e) did.given (given_alike old.messages e)

    -- an event that is not delivered is the one that is given
    is_given : (y : Event) → as_given old.messages y ≡ y → e ≡ y → x ≡ y
    is_given y same is = sym did.given ∙ ap (as_given old.messages) is ∙ same

    abbrev SwitchesIs : OfChange n.Storage
    SwitchesIs o i d s t = Switches i x turn.reply (o.ghosts.is_on s) (o.ghosts.is_on t)

    abbrev ArmedIs : ℕ → ℕ → ℕ → OfChange n.Storage
    ArmedIs calls keep byte o i d s t = IsArmed o.ghosts n.fuse t calls keep byte

    abbrev RestsIs : OfChange n.Storage
    RestsIs o i d s t = t ≡ s

    switches_at : (k : Node) → node_for x ≡ Some k → At n SwitchesIs old new k
    switches_at k is = subst (λ (j : Node). At n SwitchesIs old new j) (node_is m x k did.of is) did.switches

    armed_at : (k : Node) (calls keep byte : ℕ) → x ≡ ev.Cut k calls keep byte → At n (ArmedIs calls keep byte) old new k
    armed_at k calls keep byte is =
        let same = node_is m x k did.of (ap node_for is) in
        subst (λ (j : Node). At n (ArmedIs calls keep byte) old new j) same
        (did.armed calls keep byte (is ∙ ap (λ (j : Node). ev.Cut j calls keep byte) (sym same)))

    rests_at : (k : Node) → (node_for x ≡ Some k → ⊥) → At n RestsIs old new k
    rests_at k not = stays n m old new did.rest RestsIs k (λ same. not (did.of.node ∙ ap (λ (j : Node). Some j) (sym same))) (of_all n (λ o i d s. s ≡ s) old (λ o i d s. refl) k)

    leaves_at : (k : Node) → At n (λ o i d. Leaves o.ghosts n.storage n.fuse i x old.day turn.reply) old new k
    leaves_at k = together k (charged_at k) (switches_at k) (armed_at k) (rests_at k)
      where
        one : (o : OneKind n.Storage) (i : Node) (s t : o.Own) → Charged i x turn.reply (meters_of o.ghosts n.storage s) (meters_of o.ghosts n.storage t)
            → (node_for x ≡ Some i → Switches i x turn.reply (o.ghosts.is_on s) (o.ghosts.is_on t)) → ((calls keep byte : ℕ) → x ≡ ev.Cut i calls keep byte → IsArmed o.ghosts n.fuse t calls keep byte)
            → ((node_for x ≡ Some i → ⊥) → t ≡ s) → Leaves o.ghosts n.storage n.fuse i x old.day turn.reply s t
        one o i s t charged switches armed rests = record { switches = λ some at there. switches at; charged = charged; armed = λ some calls keep byte at. armed calls keep byte at; rests = rests }

        together : (j : Node) → At n ChargedIs old new j → (node_for x ≡ Some j → At n SwitchesIs old new j)
            → ((calls keep byte : ℕ) → x ≡ ev.Cut j calls keep byte → At n (ArmedIs calls keep byte) old new j) → ((node_for x ≡ Some j → ⊥) → At n RestsIs old new j)
            → At n (λ o i d. Leaves o.ghosts n.storage n.fuse i x old.day turn.reply) old new j
        together (Device d) charged switches armed rests = λ i s t next was is.
            one (devices n) (Device d) s t (charged i s t next was is) (λ at. switches at i s t next was is) (λ calls keep byte at. armed calls keep byte at i s t next was is) (λ not. rests not i s t next was is)
        together Centre charged switches armed rests = one (centre n) Centre old.centre new.centre charged switches armed rests
        together Host charged switches armed rests = one (host n) Host old.host new.host charged switches armed rests
        together Verifier charged switches armed rests = one (verifier n) Verifier old.verifier new.verifier charged switches armed rests

    no_rates : e ≡ ev.Rates → ⊥
    no_rates is = let none : ◌≡◌ {A = Option Node} None (Some m) = sym (ap node_for (is_given ev.Rates refl is)) ∙ did.of.node in cc

    pub at_alone : StepsAlone n e [] turn old new before now
    at_alone = record {
      reply = subst (λ (y : Event). MayGet y turn.reply) (sym did.given) did.reply;
      day = λ needs. (λ is. absurd (did.on_day is), λ none. absurd (did.dated none));
      dated = did.rest.day ∙ sym (alike.leaves old.day ∙ did.of.leaves old.day);
      dates = λ t is. absurd (did.of.no_day t (is_given (ev.Day t) refl is));
      ends = λ is. absurd (did.of.no_end (is_given ev.End refl is));
      compares = λ k is. absurd (did.of.no_compare k (is_given (ev.Reconcile k) refl is));
      message = λ k is some. absurd (did.there k is);
      sends = did.sends;
      refused = did.refused;
      adds = subst (λ (y : Event). Adds y turn.reply turn.entries) (sym did.given) did.adds;
      quiet = sends_none x turn did.adds;
      uses = λ c made. let is = did.uses c made in subst (λ (k : Node). UsesFuse n k old new) (sym is.0) is.1;
      untouched = subst (λ (y : Event). OnlyCalls y → tells_failure turn.reply ≡ false → made_in turn.entries ≡ None → new ≡ sending turn old) (sym did.given) did.untouched;
      nodes = λ k. subst (λ (y : Event). At n (λ o i d. Leaves o.ghosts n.storage n.fuse i y old.day turn.reply) old new k) (sym did.given) (leaves_at k);
      rates = record {
        reads = λ is. absurd (no_rates is);
        no_day = λ none. absurd (did.dated none);
        others = λ not. record { nothing = refl; keeps = did.rest.rates; rests = did.feed };
        later = subst (λ (k : ℕ). before.rates.faults ≤ k) (ap (λ (y : Feed). y.faults) (sym did.feed)) (omega arith);
      };
      printer = (did.mark, did.printer);
    }

    -- == by what the storages show ==

    abbrev MountsIs : OfChange n.Storage
    MountsIs o i d s t = Mounts (times_of o.ghosts n.storage s) (times_of o.ghosts n.storage t)

    pub at_unwritten : n.storage.tells → may_commit e ≡ false → (k : Node) → At n MountsIs old new k
    at_unwritten tells none = walk n m old new did.rest MountsIs (did.unwritten tells (sym alike.commits ∙ none)) (λ j differs. of_all n (λ o i d s. MountsIs o i d s s) old (λ o i d s. mounts_none (times_of o.ghosts n.storage s)) j)

    pub at_damaged : n.storage.tells → (k : Node) → e ≡ ev.On k → has_read turn.reply ≡ true → At n (λ o i d s t. (turn.reply ≡ r.Damaged i) ↔ HasDamage o.ghosts d t) old new k
    at_damaged tells k is read =
        let on = is_given (ev.On k) refl is in
        let same = node_is m x k did.of (ap node_for on) in
        subst (λ (j : Node). At n (λ o i d s t. (turn.reply ≡ r.Damaged i) ↔ HasDamage o.ghosts d t) old new j) same
        (did.found tells (on ∙ ap (λ (j : Node). ev.On j) (sym same)) read)

  -- == by the ledger ==

  -- what node m did by a ledger that the bench represented, while each other node is seen as before
  pub record NodeDidOn (τ : Tariff) (L : Ledger) : Type 0 where
    pub moves : Moves τ todays_rules L e [] turn.reply
    pub entries : turn.entries ≡ in_order (after (plan τ todays_rules L e []) turn.reply [])
    pub stands : At n (λ o i d s t. node.Stands o.ghosts n.storage d (view_in i (o.kind.seen d) (ledger.entries τ todays_rules L e [] turn.reply)) t) old new m
    pub others : OthersStay n.kinds m L (ledger.entries τ todays_rules L e [] turn.reply)
    pub rests : Rests L (ledger.entries τ todays_rules L e [] turn.reply)
    pub sent : sent_in (ledger.entries τ todays_rules L e [] turn.reply) ≡ sent_in L ++ notes_in turn.entries
    pub closes : tells_failure turn.reply ≡ false → torn_of m L ≡ None → torn_of m (ledger.entries τ todays_rules L e [] turn.reply) ≡ None
    pub shows : At n (λ o i d. ShowsLedger o.ghosts n.storage (o.kind.seen d) i τ L e []) old new m
    pub open_others : OthersStay n.kinds m L (with_open (plan τ todays_rules L e []).commit L)
    pub left : At n (λ o i d s t. (store : n.Inner) → n.inner.size store ≡ o.ghosts.bytes → HoldsImage o.ghosts n.storage n.inner s t store → StoreStands o.ghosts n.inner d (view_in i (o.kind.seen d) (after_stop τ L e [])) store) old new m
    pub printed : PrinterDid turn.reply (print_of (plan τ todays_rules L e []).after) before.printer now.printer

  module _ (did : NodeDid) (τ : Tariff) (L : Ledger) (on : NodeDidOn τ L) (history : History τ editions L) (unforged : Unforged e L) (whole : IsWholeEvent e)
      (ready : IsReady old) (stands : Stands n old L) (tells : n.storage.tells) where
    abbrev M : Ledger
    M = ledger.entries τ todays_rules L e [] turn.reply

    abbrev StandsIs : Ledger → OfState n.Storage
    StandsIs K o i d s = node.Stands o.ghosts n.storage d (view_in i (o.kind.seen d) K) s

    -- a node that K shows as L does represents K
    stands_same : (K : Ledger) (j : Node) → SeenSame n L K j → Of n (StandsIs K) old j
    stands_same K j same = of_by n (λ o i d. view_in i (o.kind.seen d) K ≡ view_in i (o.kind.seen d) L) (StandsIs L) (StandsIs K) old
        (λ o i d s is st. subst (λ (w : View o.ghosts.Seen). node.Stands o.ghosts n.storage d w s) (sym is) st) j same (stands.nodes j)

    stands_at : (k : Node) → At n (λ o i d s t. StandsIs M o i d t) old new k
    stands_at = walk n m old new did.rest (λ o i d s t. StandsIs M o i d t) on.stands (λ j differs. stands_same M j (seen_same n m L M on.others j differs))

    -- the device that was in the place of one that is there
    now_stands : (k : Node) → At n (λ o i d s t. StandsIs M o i d t) old new k → Of n (StandsIs M) new k
    now_stands (Device d) at = λ i t next is. let s = get_some old.devices i (omega (arith, slice_get_within new.devices i t is, did.rest.size)) in at i s.0 t next s.1 is
    now_stands Centre at = at
    now_stands Host at = at
    now_stands Verifier at = at

    at_stands : Stands n new M
    at_stands = record {
      day = record {
        day = did.rest.day ∙ stands.day.day ∙ sym on.rests.day;
        messages = did.sends ∙ ap (λ (l : List (List ℕ)). l ++ notes_in turn.entries) stands.day.messages ∙ sym on.sent;
        rates = subst (λ (o : Option RateTable). Keeps (rates_in M) o) (sym did.rest.rates) (subst (λ (t : Option (List ℕ)). Keeps t old.rates) (sym on.rests.rates) stands.day.rates);
      };
      nodes = λ k. now_stands k (stands_at k);
    }

    -- the commit of another node is as open as it was
    at_closed : tells_failure turn.reply ≡ false → StayClosed L M
    at_closed fine k none = ⊎_elim
        (λ (same : k ≡ m). subst (λ (j : Node). torn_of j M ≡ None) (sym same) (on.closes fine (subst (λ (j : Node). torn_of j L ≡ None) same none)))
        (λ (differs : k ≢ m). closed_same n L M k (seen_same n m L M on.others k differs) none)
        (same_or_not k m)

    abbrev ShowsIs : OfChange n.Storage
    ShowsIs o i d s t = ShowsLedger o.ghosts n.storage (o.kind.seen d) i τ L e [] s t

    at_shows : (k : Node) → At n ShowsIs old new k
    at_shows = walk n m old new did.rest ShowsIs on.shows (λ j differs. of_with n (StandsIs L) (λ o i d s. ShowsIs o i d s s) old (λ o i d s st image since. inl (st.store.shows tells image since)) j (stands.nodes j))

    module _ (stores : Places n.Inner) (are : AreLeft n old new stores) where
      abbrev LeftIs : OfChange n.Storage
      LeftIs o i d s t = (store : n.Inner) → n.inner.size store ≡ o.ghosts.bytes → HoldsImage o.ghosts n.storage n.inner s t store → StoreStands o.ghosts n.inner d (view_in i (o.kind.seen d) (after_stop τ L e [])) store

      abbrev open_ledger : Ledger
      open_ledger = with_open (plan τ todays_rules L e []).commit L

      left_at : (k : Node) → At n LeftIs old new k
      left_at = walk n m old new did.rest LeftIs on.left (λ j differs. of_by n (λ o i d. view_in i (o.kind.seen d) open_ledger ≡ view_in i (o.kind.seen d) L) (StandsIs L) (λ o i d s. LeftIs o i d s s) old
          (λ o i d s same st store size images. rest_left o.ghosts n.storage n.inner i d (o.kind.seen d) L open_ledger s store tells st same size images) j (seen_same n m L open_ledger on.open_others j differs) (stands.nodes j))

      at_left : StoresStand n stores (after_stop τ L e [])
      at_left = record {
        day = none_day _;
        nodes = λ k store there. left_in n old new stores (after_stop τ L e []) ready did.rest.size are.eight k store there refl
            (at_both n LeftIs (λ o i d s t. (n.inner.size store ≡ o.ghosts.bytes) × HoldsImage o.ghosts n.storage n.inner s t store)
            (λ o i d s t. StoreStands o.ghosts n.inner d (view_in i (o.kind.seen d) (after_stop τ L e [])) store) old new (λ o i d s t left held. left store held.0 held.1) k (left_at k) (are.each k store there));
      }

    pub at_on : StepsOn n τ L e [] turn old new before now
    at_on = record {
      moves = on.moves;
      entries = on.entries;
      stands = at_stands;
      closed = at_closed;
      any_moment = at_shows;
      stopped = λ stores are. (stop_history τ L e [] history whole unforged, at_left stores are);
      printed = on.printed;
    }

-- a report that equals a turn has the steps of that turn
pub told_steps : (n : Nodes) (e : Event) (text : List ℕ) (told turn : Turn) (old new : BenchOf n) (before now : Outside)
    → told ≡ turn → Steps n e text turn old new before now → Steps n e text told old new before now
told_steps n e text told turn old new before now is steps = subst (λ (t : Turn). Steps n e text t old new before now) (sym is) steps

-- what is sent, once it was
pub sent_steps : (n : Nodes) (e : Event) (text : List ℕ) (turn : Turn) (old left new : BenchOf n) (before now : Outside)
    → new ≡ sending turn left → Steps n e text turn old (sending turn left) before now → Steps n e text turn old new before now
sent_steps n e text turn old left new before now is steps = subst (λ (b : BenchOf n). Steps n e text turn old b before now) (sym is) steps

-- what an event did that is this one
pub same_steps : (n : Nodes) (e x : Event) (text : List ℕ) (turn : Turn) (old new : BenchOf n) (before now : Outside)
    → e ≡ x → Steps n x text turn old new before now → Steps n e text turn old new before now
same_steps n e x text turn old new before now is steps = subst (λ (y : Event). Steps n y text turn old new before now) (sym is) steps

-- what holds of each value holds of the one that was answered
pub each_ok : {A E : Type 0} (P Q : A → Type 0) → ((a : A) → P a → Q a) → (x : Result A E) → IfOk x P → IfOk x Q
each_ok P Q each (Ok a) holds = each a holds
each_ok P Q each (Err e) holds = tt
