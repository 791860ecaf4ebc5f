-- What one event does to the bench.
use Rattle.std.specs.Prelude.{◌≡◌, ◌≢◌, ◌⊎◌, ◌↔◌, ℕ, ℤ, ◌+◌, List, [], ◌∷◌, ◌++◌, true, false, Option, Some, None, IsSome, length, slice_get}
use Rattle.bench_base.specs.declared.{words.Node.Node, words.Node.TheVariants.Device, words.Node.TheVariants.Centre, words.Node.TheVariants.Host, words.Node.TheVariants.Verifier, ledger.Commit.Commit, ledger.Entry.Entry, events.Event.Event, events.Reply.Reply}
use Rattle.bench_base.specs.declared.ledger.Entry.TheVariants as entry
use Rattle.bench_base.specs.declared.events.Event.TheVariants as ev
use Rattle.bench_base.specs.declared.events.Reply.TheVariants as r
use Rattle.bench_base.specs.Rules.{todays_rules, editions}
use Rattle.bench_base.specs.Nodes.{node_of}
use Rattle.bench_base.specs.Events.{node_for, needs_day, may_commit, day_after}
use Rattle.bench_base.specs.Replies.{is_refusal, tells_failure, has_read, MayGet}
use Rattle.bench_base.specs.Ledger.{Ledger, torn_of, counted}
use Rattle.nv_model.specs.declared.nv.Nv as nv
use Rattle.nv_model.specs.declared.fuse.Fuse as fuse
use Rattle.nv_model.specs.Moments.{Image}
use Rattle.nv_store.specs.Mounts.{Mounts}
use Rattle.nv_store.specs.Store.{UsesCommit}
use Rattle.node_acts.specs.declared.asked.Asked.{Asked}
use Rattle.node_acts.specs.Kinds.{Kind, view_in}
use Rattle.node_acts.specs.Plans.{after}
use Rattle.node_acts.specs.Views.{View}
use Rattle.node_storage.specs.declared.node.Node.{Ghosts}
use Rattle.node_storage.specs.Shown.{Allowed}
use Rattle.node_storage.specs.Stands as node
use Rattle.node_storage.specs.Stands.{times_of, meters_of, HasDamage, IsArmed}
use Rattle.node_turns.specs.declared.turn.Turn.{Turn}
use Rattle.node_turns.specs.Adds.{Adds, names_message}
use Rattle.node_turns.specs.Costs.{Charged}
use Rattle.node_turns.specs.NodeTurns.{Switches, MovesView, OnlyCalls, plan_by}
use Rattle.node_turns.specs.Printing.{PrinterDid, print_of}
use Rattle.node_turns.specs.Turns.{in_order, made_in, turn_of}
use Rattle.node_turns.specs.Turns as turns
use Rattle.ledger_moves.specs.Tariffs.{Tariff}
use Rattle.ledger_moves.specs.Moves as ledger
use Rattle.ledger_moves.specs.Moves.{Moves, plan}
use Rattle.ledger_moves.specs.Histories.{History}
use Rattle.bench_abstraction.specs.declared.routing.Routed.TheVariants as route
use Rattle.bench_abstraction.specs.declared.routing.OfDay.{OfDay}
use Rattle.bench_abstraction.specs.declared.routing.OfDay.TheVariants as of_day
use Rattle.bench_abstraction.specs.Tariff.{quote}
use Rattle.bench_abstraction.specs.Routing.{routed, as_given}
use Rattle.bench.specs.Benches.{Bench, BenchOf, Places, Nodes, At, Stands, StoresStand, ForEach, store_of}
use Rattle.bench.specs.Outside.{Outside, ReadsRates}

-- == of one node, of any kind ==

-- an image of node m that shows its counted commits and the commit of the event
abbrev pub ShowsCommit : {K S N C R : Type 0} (n : Ghosts K S N C R) → (List Commit → n.Seen) → Node → Tariff → Ledger → Event → List ℕ → List ℕ → Type 0
ShowsCommit n seen m τ H e text image = (c : Commit) × ((plan τ todays_rules H e text).commit ≡ Some c) × (node_of c ≡ m)
    × n.IsShown (seen (c ∷ counted H)) image

-- each image that the node had since the event began shows the ledger, or the ledger and the one commit of the event
abbrev pub ShowsLedger : {K S N C R : Type 0} (n : Ghosts K S N C R) → nv.Ghosts S → (List Commit → n.Seen) → Node → Tariff → Ledger → Event → List ℕ
    → K → K → Type 0
ShowsLedger n g seen m τ H e text s t = (image : List ℕ) → (times_of n g t).since (times_of n g s).moment image
    → Allowed n (view_in m seen H) image ⊎ ShowsCommit n seen m τ H e text image

-- whatever this storage may hold is an image that the node had at some moment between these
abbrev pub HoldsImage : {K S N C R T : Type 0} (n : Ghosts K S N C R) → nv.Ghosts S → nv.Ghosts T → K → K → T → Type 0
HoldsImage n g h s t store = (image : List ℕ) → Image (h.times store) image → (times_of n g t).since (times_of n g s).moment image

-- the event does what each view that the node represented allows
abbrev pub MovesViews : {K S N C R X : Type 0} (n : Ghosts K S N C R) → nv.Ghosts S → Kind N n.Seen X → Node → N → ℤ → Asked X → Turn → K → K → Type 0
MovesViews n g kind m d today asked turn s t = (v : View n.Seen) → node.Stands n g d v s → MovesView n kind g m d today asked turn v s t

-- and the printer takes what the plan of any such view prints
abbrev pub PrintsViews : {K S N C R X : Type 0} (n : Ghosts K S N C R) → nv.Ghosts S → Kind N n.Seen X → Node → N → ℤ → Asked X → Turn → K → Outside
    → Outside → Type 0
PrintsViews n g kind m d today asked turn s before now =
    (v : View n.Seen) → node.Stands n g d v s → PrinterDid turn.reply (print_of (plan_by n kind m d today v asked).after) before.printer now.printer

-- What an event on this day with this reply leaves of node m, whether or not its storage exposes its contents. It says
-- whether the node is on, unless the event names a message that nobody sent, and what its counts and its fuse are. If the
-- event is for another node, node m is as it was.
pub record Leaves {K S N C R : Type 0} (n : Ghosts K S N C R) (g : nv.Ghosts S) (f : fuse.Ghosts S) (m : Node) (e : Event) (today : Option ℤ)
    (reply : Reply) (s t : K) : Type 0 where
  pub switches : IsSome today → node_for e ≡ Some m → ((k : ℕ) → reply ≢ r.NoMessage k) → Switches m e reply (n.is_on s) (n.is_on t)
  pub charged : Charged m e reply (meters_of n g s) (meters_of n g t)
  pub armed : IsSome today → (calls keep byte : ℕ) → e ≡ ev.Cut m calls keep byte → IsArmed n f t calls keep byte
  pub rests : (node_for e ≡ Some m → ⊥) → t ≡ s

-- == messages ==

-- what is sent by these entries
abbrev pub notes_of : Option (List ℕ) → List (List ℕ)
notes_of None = []
notes_of (Some note) = note ∷ []

abbrev pub notes_in : List (Option Entry) → List (List ℕ)
notes_in entries = notes_of (turns.sent_in entries)

-- the bench with what the turn sends
abbrev pub sending : {D C H V : Type 0} → Turn → Bench D C H V → Bench D C H V
sending turn bench = record bench { messages = bench.messages ++ notes_in turn.entries }

-- a node without an open commit has none now
abbrev pub StayClosed : Ledger → Ledger → Type 0
StayClosed old new = (m : Node) → torn_of m old ≡ None → torn_of m new ≡ None

-- == a stop within a step ==

-- the ledger with this commit, if there is one, open
abbrev pub with_open : Option Commit → Ledger → Ledger
with_open None H = H
with_open (Some c) H = entry.Torn (node_of c) c ∷ H

-- the ledger after a stop within the event: the commit of the event, if it has one, is open, and a new run begins
abbrev pub after_stop : Tariff → Ledger → Event → List ℕ → Ledger
after_stop τ H e text = entry.Begin ∷ with_open (plan τ todays_rules H e text).commit H

-- == of the bench ==

module _ (n : Nodes) where
  -- Storages that a stop leaves: of each, whatever it may hold is an image that its node had at some moment between these benches,
  -- before and after the event.
  pub record AreLeft (old new : BenchOf n) (stores : Places n.Inner) : Type 0 where
    pub eight : length stores.devices ≡ 8
    pub each : (m : Node) (store : n.Inner) → store_of stores m ≡ Some store
        → At n (λ k i d s t. (n.inner.size store ≡ k.ghosts.bytes) × HoldsImage k.ghosts n.storage n.inner s t store) old new m

  -- whatever a stop between these benches leaves represents this ledger, which is a history
  abbrev pub LeftFor : Tariff → BenchOf n → BenchOf n → Ledger → Type 0
  LeftFor τ old new L = (stores : Places n.Inner) → AreLeft old new stores → History τ editions L × StoresStand n stores L

  -- the reply is what any two views show that the device and the centre represented
  abbrev pub ComparesViews : ℕ → Reply → n.Centres → n.Devices → Type 0
  ComparesViews d reply centre device = (v : View n.devices.Seen) (w : View n.centre.Seen) → node.Stands n.devices n.storage d v device
      → node.Stands n.centre n.storage tt w centre → n.storage.tells
      → reply ≡ n.kinds.compare d v w

  -- What was done by a history that the bench represented, if the event took this text of the rates. The reply is one that
  -- the event may get there, and the entries are those of the event and the reply. The bench represents the history with them, and only a
  -- failure leaves a commit open. At every moment meanwhile the storages show the ledger, or the ledger and the one commit
  -- of the event. So if the process is stopped they represent it. The printer took the mark that the event prints.
  pub record StepsOn (τ : Tariff) (L : Ledger) (e : Event) (text : List ℕ) (turn : Turn) (old new : BenchOf n) (before now : Outside) : Type 0 where
    pub moves : Moves τ todays_rules L e text turn.reply
    pub entries : turn.entries ≡ in_order (after (plan τ todays_rules L e text) turn.reply [])
    pub stands : Stands n new (ledger.entries τ todays_rules L e text turn.reply)
    pub closed : tells_failure turn.reply ≡ false → StayClosed L (ledger.entries τ todays_rules L e text turn.reply)
    pub any_moment : (m : Node) → At n (λ k i d. ShowsLedger k.ghosts n.storage (k.kind.seen d) i τ L e text) old new m
    pub stopped : LeftFor τ old new (after_stop τ L e text)
    pub printed : PrinterDid turn.reply (print_of (plan τ todays_rules L e text).after) before.printer now.printer

  -- to compare device d with the centre finds the centre off if and only if it is and the device is not
  abbrev pub FindsOff : ℕ → Reply → BenchOf n → Type 0
  FindsOff d reply old = IsSome old.day → (i : ℕ) (s : n.Devices) → d ≡ i + 1 → slice_get old.devices i ≡ Some s
      → (reply ≡ r.OffNode Centre) ↔ ((n.devices.is_on s ≡ true) × (n.centre.is_on old.centre ≡ false))

  -- what is asked on that day was done: by a node, as each view that it represented allows; of two nodes that are compared,
  -- as any two views show
  abbrev pub DoesAsked : ℤ → Turn → BenchOf n → BenchOf n → Outside → Outside → OfDay → Type 0
  DoesAsked today turn old new before now (of_day.Reconcile d) = (i : ℕ) (s : n.Devices) → d ≡ i + 1 → slice_get old.devices i ≡ Some s
      → ComparesViews d turn.reply old.centre s
  DoesAsked today turn old new before now (of_day.Device d asked) = (i : ℕ) (s t : n.Devices) → d ≡ i + 1 → slice_get old.devices i ≡ Some s
      → slice_get new.devices i ≡ Some t
      → MovesViews n.devices n.storage n.kinds.devices (Device d) d today asked turn s t
  DoesAsked today turn old new before now (of_day.Centre asked) = MovesViews n.centre n.storage n.kinds.centre Centre tt today asked turn old.centre new.centre
  DoesAsked today turn old new before now (of_day.Host asked) =
      MovesViews n.host n.storage n.kinds.host Host tt today asked turn old.host new.host
      × PrintsViews n.host n.storage n.kinds.host Host tt today asked turn old.host before now
  DoesAsked today turn old new before now (of_day.Verifier asked) =
      MovesViews n.verifier n.storage n.kinds.verifier Verifier tt today asked turn old.verifier new.verifier
  DoesAsked today turn old new before now _ = Unit {0}

  -- What was done by what the storages show, whether or not a history leads to it. The event does what each view that its
  -- node represented allows, and compares what any two views show. Only an event that may commit writes. An `on` that read a
  -- storage reports damage if and only if that is not a valid storage of the node.
  pub record StepsByViews (e : Event) (turn : Turn) (old new : BenchOf n) (before now : Outside) : Type 0 where
    pub does : (today : ℤ) (x : OfDay) → old.day ≡ Some today → routed old.messages (quote old.rates) e ≡ Some (route.OfDay x)
        → DoesAsked today turn old new before now x
    pub unwritten : may_commit e ≡ false → (m : Node) → At n (λ k i d s t. Mounts (times_of k.ghosts n.storage s) (times_of k.ghosts n.storage t)) old new m
    pub damaged : (m : Node) → e ≡ ev.On m → has_read turn.reply ≡ true → At n (λ k i d s t. (turn.reply ≡ r.Damaged i) ↔ HasDamage k.ghosts d t) old new m

  -- a commit of node m used four calls of its storage or six
  abbrev pub UsesFuse : Node → BenchOf n → BenchOf n → Type 0
  UsesFuse m old new = At n (λ k i d s t. UsesCommit (meters_of k.ghosts n.storage s).fuse (meters_of k.ghosts n.storage t).fuse) old new m

  -- What holds whether or not the storages expose their contents.
  pub record StepsAlone (e : Event) (text : List ℕ) (turn : Turn) (old new : BenchOf n) (before now : Outside) : Type 0 where
    -- the event may get this reply: to deliver a message is to give it to the node that it is for, and to scan one is to scan its bytes
    pub reply : MayGet (as_given old.messages e) turn.reply
    -- an event that needs a day gets `NoDay` if and only if there is no day
    pub day : needs_day e ≡ true → (turn.reply ≡ r.NoDay) ↔ (old.day ≡ None)
    -- the day after the event
    pub dated : new.day ≡ day_after e old.day
    -- the turns of `day` and `end`
    pub dates : (t : ℤ) → e ≡ ev.Day t → turn ≡ turn_of (r.Day t) (entry.Day t ∷ [])
    pub ends : e ≡ ev.End → (new ≡ old) × (turn ≡ turn_of r.End [])
    -- to compare changes and adds nothing, and finds the centre off as `FindsOff` says
    pub compares : (d : ℕ) → e ≡ ev.Reconcile d → (new ≡ old) × (turn.entries ≡ in_order []) × FindsOff d turn.reply old
    -- a message that nobody sent
    pub message : (k : ℕ) → routed old.messages (quote old.rates) e ≡ Some (route.OfDay (of_day.NoMessage k)) → IsSome old.day → turn.reply ≡ r.NoMessage k
    -- what is sent, and only that, becomes the next message
    pub sends : new.messages ≡ old.messages ++ notes_in turn.entries
    -- a refusal changes and adds nothing
    pub refused : is_refusal turn.reply ≡ true → (new ≡ old) × (turn.entries ≡ in_order [])
    -- what a reply alone says of the entries
    pub adds : Adds (as_given old.messages e) turn.reply turn.entries
    -- a reply that names no message sends no message
    pub quiet : names_message turn.reply ≡ false → notes_in turn.entries ≡ []
    -- how many calls of its storage a commit uses
    pub uses : (c : Commit) → made_in turn.entries ≡ Some c → UsesFuse (node_of c) old new
    -- a call without a commit leaves the bench as it was, except for what is sent
    pub untouched : OnlyCalls (as_given old.messages e) → tells_failure turn.reply ≡ false → made_in turn.entries ≡ None → new ≡ sending turn old
    -- what is left of each node: a node that the event is not for is as it was
    pub nodes : (m : Node) → At n (λ k i d. Leaves k.ghosts n.storage n.fuse i (as_given old.messages e) old.day turn.reply) old new m
    -- what is read of the rates
    pub rates : ReadsRates e text turn old.day old.rates new.rates before.rates now.rates
    -- what the printer takes
    pub printer : (mark : Option (List ℕ)) × PrinterDid turn.reply mark before.printer now.printer

  -- what one event does to the bench, in three parts
  pub record Steps (e : Event) (text : List ℕ) (turn : Turn) (old new : BenchOf n) (before now : Outside) : Type 0 where
    pub history : ForEach n old e (λ τ L. StepsOn τ L e text turn old new before now)
    pub shown : n.storage.tells → StepsByViews e turn old new before now
    pub always : StepsAlone e text turn old new before now
