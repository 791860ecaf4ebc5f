-- What the bench sees of each kind of node, by the ledger.
use Rattle.std.proofs.Common.{ℕ}
use Rattle.bench_base.specs.declared.words.Node.TheVariants.{Device, Centre, Host, Verifier}
use Rattle.bench_base.specs.Ledger.{Ledger}
use Rattle.node_acts.specs.Views.{View}
use Rattle.node_acts.specs.Kinds.{view_in}
use Rattle.psd_state.specs.Seen as device
use Rattle.centre_ledger.specs.Seen as centre
use Rattle.host_jobs.specs.Records as jobs
use Rattle.host_jobs.specs.Seen as host
use Rattle.verifier.specs.Records as scans
use Rattle.verifier.specs.Seen as verifier
use Rattle.bench_abstraction.specs.Devices as devices
use Rattle.bench_abstraction.specs.Centre as books

abbrev pub device_view : ℕ → Ledger → View device.Seen
device_view d H = view_in (Device d) (devices.seen_in d) H

abbrev pub centre_view : Ledger → View centre.Seen
centre_view H = view_in Centre books.seen_in H

abbrev pub host_view : Ledger → View host.Seen
host_view H = view_in Host jobs.seen_after H

abbrev pub verifier_view : Ledger → View verifier.Seen
verifier_view H = view_in Verifier scans.seen_after H
