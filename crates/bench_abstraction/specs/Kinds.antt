-- The kinds of nodes of a bench.
use Rattle.std.specs.Prelude.{ℕ}
use Rattle.bench_base.specs.declared.events.Reply.{Reply}
use Rattle.node_acts.specs.Kinds.{Kind}
use Rattle.node_acts.specs.Views.{View}
use Rattle.psd_state.specs.Seen as device
use Rattle.centre_ledger.specs.Seen as centre
use Rattle.host_jobs.specs.Seen as host
use Rattle.verifier.specs.Seen as verifier
use Rattle.bench_abstraction.specs.declared.{calls.DeviceCall.DeviceCall, calls.CentreCall.CentreCall, calls.HostCall.HostCall, calls.VerifierCall.VerifierCall}
use Rattle.bench_abstraction.specs.Devices.{device_kind}
use Rattle.bench_abstraction.specs.Centre.{centre_kind}
use Rattle.bench_abstraction.specs.Host.{host_kind}
use Rattle.bench_abstraction.specs.Verifier.{verifier_kind}
use Rattle.bench_abstraction.specs.Comparing.{compare}

-- the four kinds of nodes, with records D, C, H and V, and what compares two of them
pub record Kinds (D C H V : Type 0) : Type 0 where
  pub devices : Kind ℕ D DeviceCall
  pub centre : Kind (Unit {0}) C CentreCall
  pub host : Kind (Unit {0}) H HostCall
  pub verifier : Kind (Unit {0}) V VerifierCall
  -- what an event that compares a device with the centre is answered, by what is seen of the two
  pub compare : ℕ → View D → View C → Reply

-- the kinds of this bench
abbrev pub bench_kinds : Kinds device.Seen centre.Seen host.Seen verifier.Seen
bench_kinds = record { devices = device_kind; centre = centre_kind; host = host_kind; verifier = verifier_kind; compare = compare }
