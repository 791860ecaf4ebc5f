-- What a run with a manifest did, from nothing.
use Rattle.std.proofs.Common.{List, []}
use Rattle.line_runs.specs.declared.status.SideStatus.{SideStatus}
use Rattle.line_extensions.specs.SideTrace.{SideStep, steps_of}
use Rattle.bench.specs.Benches.{Nodes, Stands}
use Rattle.script_replay.specs.Chains.{SceneOf}
use Rattle.script_replay.proofs.Nothing.{stands_for_none, bench_fresh}
use Rattle.mail_manifest.specs.Fresh.{DidFreshManifest}
use Rattle.mail_manifest.specs.Ran.{DidManifest}
use Rattle.mail_manifest.specs.declared.opening.ManifestLine.{ManifestLine}

module _ (n : Nodes) (old new : SceneOf n) (stands : Stands n old.bench []) (tells : n.storage.tells) (outcome : SideStatus) where
  pub manifest_fresh : (trace : List (SideStep ManifestLine)) → DidManifest n old new outcome trace → DidFreshManifest n old new outcome trace
  manifest_fresh trace did = record {
    did = did;
    bench = bench_fresh n old new stands did.side.ended (steps_of trace) did.side.bench tells;
    holds = λ τ texts unforged. did.holds τ [] texts (stands_for_none n old new stands τ) tells unforged;
  }
