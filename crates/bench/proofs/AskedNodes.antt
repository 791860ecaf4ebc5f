-- What was asked of each kind of node, in its place.
use Rattle.std.proofs.Common.{◌≡◌, ℕ, ℤ, ◌++◌, Some}
use Rattle.bench_base.specs.declared.{words.Node.TheVariants.Device, words.Node.TheVariants.Centre, words.Node.TheVariants.Host, words.Node.TheVariants.Verifier, events.Event.Event}
use Rattle.node_acts.specs.declared.asked.Asked.{Asked}
use Rattle.node_turns.specs.declared.turn.Turn.{Turn}
use Rattle.node_turns.specs.NodeTurns.{NodeTurn}
use Rattle.node_turns.specs.Printing.{NodePrints}
use Rattle.bench_abstraction.specs.declared.{calls.DeviceCall.DeviceCall, calls.CentreCall.CentreCall, calls.HostCall.HostCall, calls.VerifierCall.VerifierCall}
use Rattle.bench_abstraction.specs.declared.routing.Routed.TheVariants as route
use Rattle.bench_abstraction.specs.declared.routing.OfDay.TheVariants as of_day
use Rattle.bench_abstraction.specs.Tariff.{quote}
use Rattle.bench_abstraction.specs.Routing.{routed}
use Rattle.bench.specs.Benches.{Nodes, devices, centre, host, verifier, BenchOf}
use Rattle.bench.specs.Calls.{DeviceTurn, device_event, centre_event, host_event, verifier_event}
use Rattle.bench.specs.Outside.{Outside}
use Rattle.bench.specs.Steps.{notes_in, MovesViews}
use Rattle.bench.proofs.Events.{of_device, of_centre, of_host, of_verifier, device_given, centre_given, host_given, verifier_given}
use Rattle.bench.proofs.NodeEvents.{IsAsked, at_device, at_centre, at_host, at_verifier, here}

module _ (n : Nodes) (e : Event) (today : ℤ) (old new : BenchOf n) (turn : Turn)
    (before now : Outside) (dated : old.day ≡ Some today) (day : new.day ≡ old.day) (rates : new.rates ≡ old.rates) (sends : new.messages ≡ old.messages ++ notes_in turn.entries) (feed : now.rates ≡ before.rates) where
  pub device_asked : (d : ℕ) (asked : Asked DeviceCall) (at : DeviceTurn n.devices n.storage n.fuse n.kinds.devices d today asked old.devices new.devices before.printer now.printer turn) → new.centre ≡ old.centre → new.host ≡ old.host
      → new.verifier ≡ old.verifier → routed old.messages (quote old.rates) e ≡ Some (route.OfDay (of_day.Device d asked))
      → IsAsked n e (device_event d asked) today old new turn before now (Device d) (devices n) d asked at.before at.now (of_day.Device d)
  device_asked d asked at centre_is host_is verifier_is is = record {
    located = at_device n old new d at.place at.before at.now at.is_device at.was at.set day rates centre_is host_is verifier_is;
    did = at.did;
    prints = at.prints;
    given = device_given old.messages (quote old.rates) e d asked is;
    of = of_device d asked;
    dated = dated;
    taken_is = is;
    told = λ k same. cc;
    sends = sends;
    feed = feed;
    does = λ tells. here n old new d at.place at.before at.now at.is_device at.was at.set (λ s t. MovesViews n.devices n.storage n.kinds.devices (Device d) d today asked turn s t) (λ v st. at.did.by_view v st tells);
  }

  pub centre_asked : (asked : Asked CentreCall) → NodeTurn n.centre n.storage n.fuse n.kinds.centre Centre tt today (centre_event asked) asked old.centre new.centre turn
      → NodePrints n.centre n.storage n.kinds.centre Centre tt today asked old.centre turn.reply before.printer now.printer → new.devices ≡ old.devices → new.host ≡ old.host → new.verifier ≡ old.verifier
      → routed old.messages (quote old.rates) e ≡ Some (route.OfDay (of_day.Centre asked)) → IsAsked n e (centre_event asked) today old new turn before now Centre (centre n) tt asked old.centre new.centre of_day.Centre
  centre_asked asked did prints devices_are host_is verifier_is is = record {
    located = at_centre n old new day rates devices_are host_is verifier_is;
    did = did;
    prints = prints;
    given = centre_given old.messages (quote old.rates) e asked is;
    of = of_centre asked;
    dated = dated;
    taken_is = is;
    told = λ k same. cc;
    sends = sends;
    feed = feed;
    does = λ tells v st. did.by_view v st tells;
  }

  pub host_asked : (asked : Asked HostCall) → NodeTurn n.host n.storage n.fuse n.kinds.host Host tt today (host_event asked) asked old.host new.host turn
      → NodePrints n.host n.storage n.kinds.host Host tt today asked old.host turn.reply before.printer now.printer → new.devices ≡ old.devices → new.centre ≡ old.centre → new.verifier ≡ old.verifier
      → routed old.messages (quote old.rates) e ≡ Some (route.OfDay (of_day.Host asked)) → IsAsked n e (host_event asked) today old new turn before now Host (host n) tt asked old.host new.host of_day.Host
  host_asked asked did prints devices_are centre_is verifier_is is = record {
    located = at_host n old new day rates devices_are centre_is verifier_is;
    did = did;
    prints = prints;
    given = host_given old.messages (quote old.rates) e asked is;
    of = of_host asked;
    dated = dated;
    taken_is = is;
    told = λ k same. cc;
    sends = sends;
    feed = feed;
    does = λ tells. (λ v st. did.by_view v st tells, λ v st. prints.by_view v st tells);
  }

  pub verifier_asked : (asked : Asked VerifierCall) → NodeTurn n.verifier n.storage n.fuse n.kinds.verifier Verifier tt today (verifier_event asked) asked old.verifier new.verifier turn
      → NodePrints n.verifier n.storage n.kinds.verifier Verifier tt today asked old.verifier turn.reply before.printer now.printer → new.devices ≡ old.devices → new.centre ≡ old.centre → new.host ≡ old.host
      → routed old.messages (quote old.rates) e ≡ Some (route.OfDay (of_day.Verifier asked)) → IsAsked n e (verifier_event asked) today old new turn before now Verifier (verifier n) tt asked old.verifier new.verifier of_day.Verifier
  verifier_asked asked did prints devices_are centre_is host_is is = record {
    located = at_verifier n old new day rates devices_are centre_is host_is;
    did = did;
    prints = prints;
    given = verifier_given old.messages (quote old.rates) e asked is;
    of = of_verifier asked;
    dated = dated;
    taken_is = is;
    told = λ k same. cc;
    sends = sends;
    feed = feed;
    does = λ tells v st. did.by_view v st tells;
  }
