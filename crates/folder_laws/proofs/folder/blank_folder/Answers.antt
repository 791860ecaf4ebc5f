use Rattle.std.proofs.Common.{suc, ◌+◌, refl}
use Rattle.bench_base.specs.declared.{words.Node.TheVariants.Device, words.Node.TheVariants.Centre, words.Node.TheVariants.Host, words.Node.TheVariants.Verifier, sizes.TheConstants.DEVICE_BYTES, sizes.TheConstants.CENTRE_BYTES, sizes.TheConstants.VERIFIER_BYTES}
use Rattle.host_jobs.specs.declared.sizes.TheConstants.{HOST_BYTES}
use Rattle.trace_folder.specs.Images.{DeviceImageIs, CentreImageIs, HostImageIs, VerifierImageIs}
use Rattle.folder_laws.proofs.Blank.{blank_node, device_blank, centre_blank, host_blank, verifier_blank}
use Rattle.folder_laws.proofs.folder.blank_folder.Goals as goal

pub returns-clause-between : goal.returns-clause-between
returns-clause-between g c = record { day = record { day = refl; messages = refl; rates = tt }; off = λ m. refl }

pub returns-clause-shows : goal.returns-clause-shows
returns-clause-shows g c a stores eight sees blank = record {
  eight = eight;
  devices = λ i t store known at. blank_node g.N.Nv DEVICE_BYTES (DeviceImageIs (i + 1) t) store (blank (Device (suc i)) store at) (device_blank (i + 1) t (sees.run.devices i t known));
  centre = blank_node g.N.Nv CENTRE_BYTES (CentreImageIs a.centre) stores.centre (blank Centre stores.centre refl) (centre_blank a.centre sees.run.centre);
  host = blank_node g.N.Nv HOST_BYTES (HostImageIs a.host) stores.host (blank Host stores.host refl) (host_blank a.host sees.run.host);
  verifier = blank_node g.N.Nv VERIFIER_BYTES (VerifierImageIs a.verifier) stores.verifier (blank Verifier stores.verifier refl) (verifier_blank a.verifier sees.run.verifier);
}
