use Rattle.std.specs.Prelude.{slice_get, IfSome, ◌+◌, ◌-◌}
use Rattle.std.proofs.Common.{◌≡◌, ◌↔◌, ℕ, List, [], ◌∷◌, Option, Some, None, true, false, refl, sym, ◌∙◌, ap, subst, arith}
use Rattle.bench_base.specs.declared.{words.Node.TheVariants.Device, words.Node.TheVariants.Centre, words.Node.TheVariants.Host, words.Node.TheVariants.Verifier, events.Event.Event, events.Reply.Reply}
use Rattle.bench_base.specs.declared.ledger.Entry.TheVariants as entry
use Rattle.bench_base.specs.declared.events.Event.TheVariants as ev
use Rattle.bench_base.specs.declared.events.Reply.TheVariants as r
use Rattle.bench_base.specs.Replies.{on_after}
use Rattle.bench_base.specs.Events.{IsWholeEvent}
use Rattle.node_turns.specs.declared.turn.Turn.{Turn}
use Rattle.node_turns.specs.Printing.{printer_of}
use Rattle.node_turns.specs.Turns.{turn_of}
use Rattle.psd_state.specs.State.{State, Holds}
use Rattle.psd_device.specs.Boots.{IsOwn}
use Rattle.psd_device.specs.declared.node.DeviceNode.{DeviceNode}
use Rattle.psd_device.specs.NodeView as device_view
use Rattle.row_node.specs.NodeView as centre_view
use Rattle.bench_abstraction.specs.declared.routing.Routed.{Routed}
use Rattle.bench_abstraction.specs.declared.routing.Routed.TheVariants as route
use Rattle.centre_ledger.specs.Seen as centre_seen
use Rattle.host_jobs.specs.Seen as host_seen
use Rattle.verifier.specs.Seen as verifier_seen
use Rattle.bench_abstraction.specs.declared.routing.OfDay.TheVariants as of_day
use Rattle.bench_abstraction.specs.Devices as device_kinds
use Rattle.bench_abstraction.specs.Centre as centres
use Rattle.bench_abstraction.specs.Verifier as verifiers
use Rattle.bench_abstraction.specs.Comparing.{compare}
use Rattle.bench_abstraction.specs.Tariff.{quote}
use Rattle.bench_abstraction.specs.Routing.{IsPriced}
use Rattle.bench.specs.contracts.benches.BenchOverHasNodes.TheImpl.{ghosts}
use Rattle.bench.specs.Benches.{Nodes, BenchOf, bench_of, devices, centre as centre_of, host as host_of, verifier as verifier_of}
use Rattle.bench.specs.Calls.{device_event, centre_event, host_event, verifier_event, centre_call_event, host_call_event, verifier_call_event}
use Rattle.bench.specs.Comparing.{ShowsAt, running_device, running_centre}
use Rattle.bench.specs.Outside.{Outside, beside}
use Rattle.bench.specs.Steps.{Steps, ComparesViews, sending}
use Rattle.bench_abstraction.proofs.Quiet.{quiet_is}
use Rattle.bench.proofs.Answered.{Answers, steps_day, steps_end, steps_none, steps_missing, steps_compared}
use Rattle.bench.proofs.AskedNodes.{device_asked, centre_asked, host_asked, verifier_asked}
use Rattle.bench.proofs.Called.{told_event}
use Rattle.bench.proofs.Compares.{compare_answers, compare_off, compare_off_centre, compare_leaves, compare_same}
use Rattle.bench.proofs.Events.{taken_as, work_as, needs_taken, of_call, centre_ranged, host_ranged, verifier_ranged}
use Rattle.bench.proofs.Making.{get_some}
use Rattle.bench.proofs.NodeEvents.{steps}
use Rattle.bench.proofs.Quiet.{as_sent}
use Rattle.bench.proofs.event.turn_of.Given.{Over}
use Rattle.bench.proofs.event.turn_of.Goals as goal

abbrev nodes_in : Over → Nodes
nodes_in g = (ghosts g.row.M g.row.N g.M.Fuse g.M.Fuse-dict g.M.Nv g.M.Nv-dict g.N.Nv g.N.Nv-dict g.M.Destruct-dict).nodes

module _ (g : Over) where
  abbrev B : Type 0
  B = BenchOf (nodes_in g)

  abbrev Stepped : Event → Turn → B → B → Outside → Type 0
  Stepped e turn old new out = Steps (nodes_in g) e [] turn old new out out

  -- what the laws ask of a record
  known_device : (k : ℕ) (s : (nodes_in g).devices.Seen) → (nodes_in g).devices.IsSound k s → device_kinds.IsKnown s
  known_device k s sound = record { few = sound.few; holds = holds s.state sound.own }
    where
      holds : (o : Option State) → IfSome o (IsOwn k) → IfSome o Holds
      holds None own = tt
      holds (Some x) own = own.kept.holds

pub returns-in-Day-clause-did : goal.returns-in-Day-clause-did
returns-in-Day-clause-did g c =
    let old = bench_of c.args.bench.now in
    let t = c.in-Day.day in
    let turn = turn_of (r.Day t) (entry.Day t ∷ []) in
    let is = taken_as old.messages c.deref.result.now (quote old.rates) c.args.event.now c.route-found.result c.in-Some.taken (route.Day t) c.deref.ensures.value c.route-found.ensures.exact c.in-Some.is c.in-Day.is in
    let e_is : c.args.event.now ≡ ev.Day t = quiet_is old.messages (quote old.rates) c.args.event.now (route.Day t) is tt in (
      turn,
      c.begun.ensures,
      refl,
      λ feed. let out = beside feed (printer_of g.P.Sink c.args.printer.now) in
          as_sent (nodes_in g) c.args.event.now [] turn old (record old { day = Some t }) out out refl
          (subst (λ (e : Event). Stepped g e turn old (record old { day = Some t }) out) (sym e_is)
          (steps_day (nodes_in g) old c.requires.ready out t (subst IsWholeEvent e_is c.requires.whole))),
    )

pub returns-in-End-clause-did : goal.returns-in-End-clause-did
returns-in-End-clause-did g c =
    let old = bench_of c.args.bench.now in
    let is = taken_as old.messages c.deref.result.now (quote old.rates) c.args.event.now c.route-found.result c.in-Some.taken route.End c.deref.ensures.value c.route-found.ensures.exact c.in-Some.is c.in-End.is in
    let e_is : c.args.event.now ≡ ev.End = quiet_is old.messages (quote old.rates) c.args.event.now route.End is tt in (
      turn_of r.End [],
      c.silent.ensures,
      refl,
      λ feed. let out = beside feed (printer_of g.P.Sink c.args.printer.now) in
          as_sent (nodes_in g) c.args.event.now [] (turn_of r.End []) old old out out refl
          (subst (λ (e : Event). Stepped g e (turn_of r.End []) old old out) (sym e_is) (steps_end (nodes_in g) old c.requires.ready out (subst IsWholeEvent e_is c.requires.whole))),
    )

-- == without a day ==

pub returns-in-None-clause-did : goal.returns-in-None-clause-did
returns-in-None-clause-did g c =
    let old = bench_of c.args.bench.now in
    let e = c.args.event.now in
    let is = taken_as old.messages c.deref.result.now (quote old.rates) e c.route-found.result c.in-Some.taken (route.OfDay c.in-OfDay.work) c.deref.ensures.value c.route-found.ensures.exact c.in-Some.is c.in-OfDay.is in
    let turn = turn_of r.NoDay [] in (
      turn,
      c.silent-in-None.ensures,
      refl,
      λ feed. let out = beside feed (printer_of g.P.Sink c.args.printer.now) in
          as_sent (nodes_in g) e [] turn old old out out refl
          (steps_none (nodes_in g) old c.requires.ready out e c.requires.whole (needs_taken old.messages (quote old.rates) e c.in-OfDay.work is) c.in-None.is),
    )

-- == what the bench answers by what it sees ==

pub returns-in-NoMessage-clause-did : goal.returns-in-NoMessage-clause-did
returns-in-NoMessage-clause-did g c =
    let old = bench_of c.args.bench.now in
    let k = c.in-NoMessage.number in
    let is = work_as old.messages c.deref.result.now (quote old.rates) c.args.event.now c.route-found.result c.in-Some.taken c.in-OfDay.work (of_day.NoMessage k) c.deref.ensures.value c.route-found.ensures.exact c.in-Some.is c.in-OfDay.is c.in-NoMessage.is in
    let turn = turn_of (r.NoMessage k) [] in (
      turn,
      c.silent-in-NoMessage.ensures,
      refl,
      λ feed. let out = beside feed (printer_of g.P.Sink c.args.printer.now) in
          as_sent (nodes_in g) c.args.event.now [] turn old old out out refl
          (steps_missing (nodes_in g) old c.requires.ready out c.in-Some-today.day c.in-Some-today.is centre_seen.IsKnown (λ s sound. sound.known) c.nodes_follow.ensures.quiet c.prices_by_text.ensures.kept c.args.event.now c.requires.whole k is),
    )

-- what a running device and the running centre show is what any two views that they represent show
compares : (g : Over) (d : ℕ) (reply : Reply) (old : B g) → ShowsAt d old.devices old.centre reply → (i : ℕ) (s : DeviceNode g.row.M.Denot g.M.Nv) → d ≡ i + 1 → slice_get old.devices i ≡ Some s
    → ComparesViews (nodes_in g) d reply old.centre s
compares g d reply old shows i s next is v w device centre tells =
    shows i s next is ∙ compare_same d (running_device s) v (running_centre old.centre) w device.on centre.on (λ on. (device.runs on).seen tells) (λ on. (centre.runs on).seen tells)

pub returns-in-Reconcile-clause-did : goal.returns-in-Reconcile-clause-did
returns-in-Reconcile-clause-did g c =
    let old = bench_of c.args.bench.now in
    let d = c.in-Reconcile.device in
    let is = work_as old.messages c.deref.result.now (quote old.rates) c.args.event.now c.route-found.result c.in-Some.taken c.in-OfDay.work (of_day.Reconcile d) c.deref.ensures.value c.route-found.ensures.exact c.in-Some.is c.in-OfDay.is c.in-Reconcile.is in
    let shows : ShowsAt d old.devices old.centre c.compare.result =
    subst (λ (l : List (DeviceNode g.row.M.Denot g.M.Nv)). ShowsAt d l old.centre c.compare.result) c.deref-in-Reconcile.ensures.value c.compare.ensures in
    let e_is : c.args.event.now ≡ ev.Reconcile d = quiet_is old.messages (quote old.rates) c.args.event.now (route.OfDay (of_day.Reconcile d)) is tt in
    let own = subst IsWholeEvent e_is c.requires.whole in
    let s = get_some old.devices (d - 1) (omega (arith, own.0, own.1, c.requires.ready.eight)) in
    let one : c.compare.result ≡ compare d (running_device s.0) (running_centre old.centre) = shows (d - 1) s.0 (omega (arith, own.0)) s.1 in (
      turn_of c.compare.result [],
      c.silent-in-Reconcile.ensures,
      refl,
      λ feed. let out = beside feed (printer_of g.P.Sink c.args.printer.now) in
          as_sent (nodes_in g) c.args.event.now [] (turn_of c.compare.result []) old old out out refl
          (steps_compared (nodes_in g) old c.requires.ready out c.in-Some-today.day c.in-Some-today.is centre_seen.IsKnown (λ s sound. sound.known) c.nodes_follow.ensures.quiet c.prices_by_text.ensures.kept c.args.event.now c.requires.whole d
          c.compare.result is
          (subst (λ (x : Reply). Answers (ev.Reconcile d) x) (sym one) (compare_answers d (running_device s.0) (running_centre old.centre)))
          (λ was. subst (λ (x : Reply). was ≡ on_after x was) (sym one) (compare_leaves d (running_device s.0) (running_centre old.centre) was))
          (λ i u next was. subst (λ (x : Reply). (x ≡ r.OffNode (Device d)) ↔ (device_view.is_on u ≡ false)) (sym (shows i u next was)) (compare_off d (running_device u) (running_centre old.centre)))
          (λ i u next was. subst (λ (x : Reply). (x ≡ r.OffNode Centre) ↔ ((device_view.is_on u ≡ true) × (centre_view.is_on old.centre ≡ false))) (sym (shows i u next was)) (compare_off_centre d (running_device u) (running_centre old.centre)))
          (compares g d c.compare.result old shows)),
    )

-- == what it asks a node ==

pub returns-in-Device-clause-did : goal.returns-in-Device-clause-did
returns-in-Device-clause-did g c =
    let b = c.in-Device in
    let e = c.args.event.now in
    let old = bench_of c.args.bench.now in
    let did = c.device_turn.ensures.did in
    let today = c.in-Some-today.day in
    let is = work_as old.messages c.deref.result.now (quote old.rates) e c.route-found.result c.in-Some.taken c.in-OfDay.work (of_day.Device b.device b.asked) c.deref.ensures.value c.route-found.ensures.exact c.in-Some.is c.in-OfDay.is b.is in
    let new = sending did.0 (record old { devices = c.device_turn.new.devices.items }) in (
      did.0,
      did.1,
      refl,
      λ feed. let before = beside feed (printer_of g.P.Sink c.args.printer.now) in
          let now = beside feed (printer_of g.P.Sink c.device_turn.new.printer) in
          steps (nodes_in g) e (device_event b.device b.asked) today old new did.0 before now (Device b.device) (devices (nodes_in g)) b.device b.asked did.2.before did.2.now (of_day.Device b.device)
          (device_asked (nodes_in g) e today old new did.0 before now c.in-Some-today.is refl refl refl refl b.device b.asked did.2 refl refl refl is)
          c.requires.whole c.requires.ready c.prices_by_text.ensures.kept (λ asked. Unit {0}) tt device_kinds.IsKnown (known_device g b.device) (c.nodes_follow.ensures.devices b.device),
    )

pub node_turn-requires : goal.node_turn-requires
node_turn-requires g c =
    let old = bench_of c.args.bench.now in
    let b = c.in-Centre in
    let is = work_as old.messages c.deref.result.now (quote old.rates) c.args.event.now c.route-found.result c.in-Some.taken c.in-OfDay.work (of_day.Centre b.asked) c.deref.ensures.value c.route-found.ensures.exact c.in-Some.is c.in-OfDay.is b.is in
    record { ranged = centre_ranged old.messages (quote old.rates) c.args.event.now b.asked is c.requires.whole }

pub returns-in-Centre-clause-did : goal.returns-in-Centre-clause-did
returns-in-Centre-clause-did g c =
    let b = c.in-Centre in
    let e = c.args.event.now in
    let old = bench_of c.args.bench.now in
    let did = told_event _ _ _ _ _ _ _ centre_call_event (λ turn. g.T.Tell.IsOf c.node_turn.result turn) _ _ _ _ b.asked c.node_turn.ensures.did in
    let today = c.in-Some-today.day in
    let is = work_as old.messages c.deref.result.now (quote old.rates) e c.route-found.result c.in-Some.taken c.in-OfDay.work (of_day.Centre b.asked) c.deref.ensures.value c.route-found.ensures.exact c.in-Some.is c.in-OfDay.is b.is in
    let new = sending did.0 (record old { centre = c.node_turn.new.place }) in (
      did.0,
      did.1,
      refl,
      λ feed. let before = beside feed (printer_of g.P.Sink c.args.printer.now) in
          let now = beside feed (printer_of g.P.Sink c.node_turn.new.printer) in
          steps (nodes_in g) e (centre_event b.asked) today old new did.0 before now Centre (centre_of (nodes_in g)) tt b.asked old.centre new.centre of_day.Centre
          (centre_asked (nodes_in g) e today old new did.0 before now c.in-Some-today.is refl refl refl refl b.asked did.2 did.3 refl refl refl is)
          c.requires.whole c.requires.ready c.prices_by_text.ensures.kept centres.AreBytes (of_call centres.AreBytes tt tt (λ calls keep byte. tt) (λ call bytes. bytes) b.asked c.node_turn.ensures.bytes)
          centre_seen.IsKnown (λ s sound. sound.known) c.nodes_follow.ensures.centre,
    )

pub node_turn-requires-in-Host : goal.node_turn-requires-in-Host
node_turn-requires-in-Host g c =
    let old = bench_of c.args.bench.now in
    let b = c.in-Host in
    let is = work_as old.messages c.deref.result.now (quote old.rates) c.args.event.now c.route-found.result c.in-Some.taken c.in-OfDay.work (of_day.Host b.asked) c.deref.ensures.value c.route-found.ensures.exact c.in-Some.is c.in-OfDay.is b.is in
    let priced = subst (λ (o : Option Routed). IfSome o IsPriced) (c.in-Some.is ∙ ap (λ x. Some x) (c.in-OfDay.is ∙ ap (λ x. route.OfDay x) b.is)) c.route-found.ensures.priced in
    record { ranged = host_ranged old.messages (quote old.rates) c.args.event.now b.asked is c.requires.whole priced }

pub returns-in-Host-clause-did : goal.returns-in-Host-clause-did
returns-in-Host-clause-did g c =
    let b = c.in-Host in
    let e = c.args.event.now in
    let old = bench_of c.args.bench.now in
    let did = told_event _ _ _ _ _ _ _ host_call_event (λ turn. g.T.Tell.IsOf c.node_turn-in-Host.result turn) _ _ _ _ b.asked c.node_turn-in-Host.ensures.did in
    let today = c.in-Some-today.day in
    let is = work_as old.messages c.deref.result.now (quote old.rates) e c.route-found.result c.in-Some.taken c.in-OfDay.work (of_day.Host b.asked) c.deref.ensures.value c.route-found.ensures.exact c.in-Some.is c.in-OfDay.is b.is in
    let new = sending did.0 (record old { host = c.node_turn-in-Host.new.place }) in (
      did.0,
      did.1,
      refl,
      λ feed. let before = beside feed (printer_of g.P.Sink c.args.printer.now) in
          let now = beside feed (printer_of g.P.Sink c.node_turn-in-Host.new.printer) in
          steps (nodes_in g) e (host_event b.asked) today old new did.0 before now Host (host_of (nodes_in g)) tt b.asked old.host new.host of_day.Host
          (host_asked (nodes_in g) e today old new did.0 before now c.in-Some-today.is refl refl refl refl b.asked did.2 did.3 refl refl refl is)
          c.requires.whole c.requires.ready c.prices_by_text.ensures.kept (λ asked. Unit {0}) tt host_seen.IsKnown (λ s sound. sound) c.host_follows.ensures,
    )

pub node_turn-requires-in-Verifier : goal.node_turn-requires-in-Verifier
node_turn-requires-in-Verifier g c =
    let old = bench_of c.args.bench.now in
    let b = c.in-Verifier in
    let is = work_as old.messages c.deref.result.now (quote old.rates) c.args.event.now c.route-found.result c.in-Some.taken c.in-OfDay.work (of_day.Verifier b.asked) c.deref.ensures.value c.route-found.ensures.exact c.in-Some.is c.in-OfDay.is b.is in
    record { ranged = verifier_ranged old.messages (quote old.rates) c.args.event.now b.asked is c.requires.whole }

pub returns-in-Verifier-clause-did : goal.returns-in-Verifier-clause-did
returns-in-Verifier-clause-did g c =
    let b = c.in-Verifier in
    let e = c.args.event.now in
    let old = bench_of c.args.bench.now in
    let did = told_event _ _ _ _ _ _ _ verifier_call_event (λ turn. g.T.Tell.IsOf c.node_turn-in-Verifier.result turn) _ _ _ _ b.asked c.node_turn-in-Verifier.ensures.did in
    let today = c.in-Some-today.day in
    let is = work_as old.messages c.deref.result.now (quote old.rates) e c.route-found.result c.in-Some.taken c.in-OfDay.work (of_day.Verifier b.asked) c.deref.ensures.value c.route-found.ensures.exact c.in-Some.is c.in-OfDay.is b.is in
    let new = sending did.0 (record old { verifier = c.node_turn-in-Verifier.new.place }) in (
      did.0,
      did.1,
      refl,
      λ feed. let before = beside feed (printer_of g.P.Sink c.args.printer.now) in
          let now = beside feed (printer_of g.P.Sink c.node_turn-in-Verifier.new.printer) in
          steps (nodes_in g) e (verifier_event b.asked) today old new did.0 before now Verifier (verifier_of (nodes_in g)) tt b.asked old.verifier new.verifier of_day.Verifier
          (verifier_asked (nodes_in g) e today old new did.0 before now c.in-Some-today.is refl refl refl refl b.asked did.2 did.3 refl refl refl is)
          c.requires.whole c.requires.ready c.prices_by_text.ensures.kept verifiers.AreBytes (of_call verifiers.AreBytes tt tt (λ calls keep byte. tt) (λ call bytes. bytes) b.asked c.node_turn-in-Verifier.ensures.bytes)
          verifier_seen.IsKnown (λ s sound. sound) c.verifier_follows.ensures,
    )
