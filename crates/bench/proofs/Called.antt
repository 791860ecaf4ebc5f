-- An event of a node, whatever the kind of the node: what it came to, and what the printer took in it. A call is done by its act.
use Rattle.std.proofs.Common.{◌≡◌, ◌≢◌, ℕ, ℤ, [], sym, subst}
use Rattle.bench_base.specs.declared.{words.Node.Node, words.Node.TheVariants.Host, events.Event.Event, events.Reply.Reply}
use Rattle.bench_base.specs.declared.events.Event.TheVariants as ev
use Rattle.bench_base.specs.declared.events.Reply.TheVariants as r
use Rattle.bench_base.specs.Events.{node_for, IsAt}
use Rattle.nv_model.specs.declared.nv.Nv as nv
use Rattle.nv_model.specs.declared.fuse.Fuse as fuse
use Rattle.node_acts.specs.declared.{act.Act.Act, act.Outcome.Outcome, asked.Asked.Asked, asked.Asked.TheVariants.On, asked.Asked.TheVariants.Off, asked.Asked.TheVariants.Cut, asked.Asked.TheVariants.Call, said.Said.Said}
use Rattle.node_acts.specs.Acts.{TellsOf, commit_of}
use Rattle.node_acts.specs.Kinds.{Kind}
use Rattle.node_acts.specs.Said.{seen_plan}
use Rattle.node_acts.specs.Views.{View}
use Rattle.node_storage.specs.declared.node.Node.{Ghosts}
use Rattle.node_storage.specs.Shown.{IsFitting}
use Rattle.node_turns.specs.declared.turn.Turn.{Turn}
use Rattle.node_turns.specs.Calling.{Called}
use Rattle.node_turns.specs.NodeTurns.{NodeTurn}
use Rattle.node_turns.specs.Printing.{Printer, PrintsCall, NodePrints}
use Rattle.node_turns.specs.Turns.{call_turn, start_turn, stop_turn, turn_of}
use Rattle.node_turns.proofs.Calls.{IsCallOf, IsToldBy, turn_call}
use Rattle.node_turns.proofs.Printed.{PrintsSo, turn_printed}
use Rattle.node_turns.proofs.Switched.{turn_on, turn_off, turn_cut}
use Rattle.bench.specs.Calls.{Comes, Told, asked_event}
use Rattle.bench.proofs.Unprinted.{unprinted, none_printed}

module _ {K S N C R X : Type 0} (n : Ghosts K S N C R) (g : nv.Ghosts S) (f : fuse.Ghosts S) (kind : Kind N n.Seen X) (m : Node) (d : N) (today : ℤ) (event : X → Event) (IsAsked : X → Type 0) (by : X → n.Seen → Act C Reply Said) where
  -- the acts of these calls: how they are reported, what they plan, and what they change
  pub record AreActs : Type 0 where
    pub of : (c : X) → IsCallOf m (event c)
    pub told : (c : X) (s : n.Seen) → IsToldBy m (event c) (by c s)
    pub plan : (c : X) (v : View n.Seen) → kind.plan d today v c ≡ seen_plan n.counting m v (by c v.state)
    pub commit : (c : X) (v : View n.Seen) → kind.commit d today v c ≡ commit_of n.counting v (by c v.state)
    pub fits : (c : X) → IsAsked c → (s : n.Seen) → n.IsSound d s → IsFitting n d s (by c s)

module _ {K S N C R X : Type 0} {n : Ghosts K S N C R} {g : nv.Ghosts S} {f : fuse.Ghosts S} {kind : Kind N n.Seen X} {m : Node} {d : N} {today : ℤ} {event : X → Event} {IsAsked : X → Type 0} {by : X → n.Seen → Act C Reply Said}
    (acts : AreActs n g f kind m d today event IsAsked by) (IsOf : Turn → Type 0) {asked call : X} (is : asked ≡ call) (ranged : IsAsked asked) {s t : K} where
  -- a call of another node than the host prints nothing
  pub told_call : m ≢ Host → (printer : Printer) → ((x : Outcome Reply Said) × Called n g (by call) s t x × IsOf (call_turn m (by call (n.seen s)) x)) → Told n g f kind m d today (event asked) (Call asked) IsOf s t printer printer
  told_call other printer came =
      let turn = call_turn m (by call (n.seen s)) came.0 in
      let did = turn_call n g f kind m d today (event call) call (by call) (acts.of call) (acts.told call) (acts.plan call) (acts.commit call) (acts.fits call (subst IsAsked is ranged)) s t came.0 came.1 in
      subst (λ (c : X). Told n g f kind m d today (event c) (Call c) IsOf s t printer printer) (sym is) (
        turn,
        came.2,
        did,
        none_printed n g kind m d today (Call call) s turn.reply printer (unprinted (event call) turn.reply (λ j print. other (sym (subst (λ (x : Event). IsAt (node_for x) m) print (acts.of call).at))) did.reply),
      )

  -- one that may print
  pub told_printing : ((k : n.Seen) (a : Said) → TellsOf a (by call k) → PrintsSo a) → (before now : Printer)
      → ((x : Outcome Reply Said) × Called n g (by call) s t x × (turn : Turn) × IsOf turn × PrintsCall m (by call (n.seen s)) x before now turn) → Told n g f kind m d today (event asked) (Call asked) IsOf s t before now
  told_printing prints before now came =
      let done = turn_printed n g f kind m d today (event call) call (by call) (acts.of call) (acts.told call) (acts.plan call) (acts.commit call) (acts.fits call (subst IsAsked is ranged)) prints s t came.0 came.1 came.2 before now came.4 in
      subst (λ (c : X). Told n g f kind m d today (event c) (Call c) IsOf s t before now) (sym is) (came.2, came.3, done.did, done.prints)

module _ {K S N C R X : Type 0} (n : Ghosts K S N C R) (g : nv.Ghosts S) (f : fuse.Ghosts S) (kind : Kind N n.Seen X) (m : Node) (d : N) (today : ℤ) (event : X → Event) (IsOf : Turn → Type 0) (s t : K) (p q : Printer) where
  abbrev Tells : Asked X → Type 0
  Tells asked = Told n g f kind m d today (asked_event m event asked) asked IsOf s t p q

  -- where a node was switched the printer took nothing
  switched : (asked : Asked X) (turn : Turn) → IsOf turn → NodeTurn n g f kind m d today (asked_event m event asked) asked s t turn → ((j : ℕ) → asked_event m event asked ≢ ev.Print j) → q ≡ p → Tells asked
  switched asked turn of did other same = (
    turn,
    of,
    did,
    subst (λ (x : Printer). NodePrints n g kind m d today asked s turn.reply p x) (sym same)
        (none_printed n g kind m d today asked s turn.reply p (unprinted (asked_event m event asked) turn.reply other did.reply)),
  )

  -- so the event is reported as a turn, where a call of the kind is
  pub told_event : (asked : Asked X) → Comes n g f m d IsOf s t p q (λ c. Told n g f kind m d today (event c) (Call c) IsOf s t p q) asked → Tells asked
  told_event On (x, did, of, same) = switched On (start_turn m x) of (turn_on n g f kind m d today s t x did) (λ j is. cc) same
  told_event Off (was, did, of, same) = switched Off (stop_turn m was) of (turn_off n g f kind m d today s t was did) (λ j is. cc) same
  told_event (Cut calls keep byte) (did, of, same) = switched (Cut calls keep byte) (turn_of (r.CutSet m) []) of (turn_cut n g f kind m d today s t calls keep byte did) (λ j is. cc) same
  told_event (Call c) told = told
