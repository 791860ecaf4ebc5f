-- The storages of a folder that show what an auditor has.
use Rattle.std.specs.Prelude.{◌≡◌, ℕ, ◌+◌, List, [], Some, None, length, slice_get, false}
use Rattle.bench_base.specs.declared.{words.Node.Node, sizes.TheConstants.DEVICE_BYTES, sizes.TheConstants.CENTRE_BYTES, sizes.TheConstants.VERIFIER_BYTES}
use Rattle.host_jobs.specs.declared.sizes.TheConstants.{HOST_BYTES}
use Rattle.bench_base.specs.Ledger.{Ledger, is_on}
use Rattle.nv_model.specs.declared.nv.Nv as nv
use Rattle.nv_model.specs.Moments.{Only}
use Rattle.bench.specs.Benches.{Places, HasDay}
use Rattle.trace_folder.specs.declared.shows.Shows.{Shows}
use Rattle.trace_folder.specs.Images.{TracedDevice, IsDue, DeviceImageIs, CentreImageIs, HostImageIs, VerifierImageIs}
use Rattle.trace_bench.specs.Seeing.{Audit}

-- a ledger between two runs: no node is on, and there is no day, no message and no rates
pub record IsBetweenRuns (H : Ledger) : Type 0 where
  pub day : HasDay None [] None H
  pub off : (m : Node) → is_on m H ≡ false

module _ {T : Type 0} (h : nv.Ghosts T) where
  -- the storage of a node: it has so many bytes and one image, which shows what was counted, or that and the commit in doubt
  pub record ShowsNode (bytes : ℕ) (Is : List ℕ → Shows → Type 0) (store : T) : Type 0 where
    pub size : h.size store ≡ bytes
    pub image : List ℕ
    pub only : h.tells → Only (h.times store) image
    pub shows : IsDue (Is image)

  -- THE STORAGES OF A FOLDER: each shows what the auditor has of its node
  pub record IsFolder (a : Audit) (stores : Places T) : Type 0 where
    pub eight : length stores.devices ≡ 8
    pub devices : (i : ℕ) (t : TracedDevice) (store : T) → slice_get a.devices i ≡ Some t → slice_get stores.devices i ≡ Some store
        → ShowsNode DEVICE_BYTES (DeviceImageIs (i + 1) t) store
    pub centre : ShowsNode CENTRE_BYTES (CentreImageIs a.centre) stores.centre
    pub host : ShowsNode HOST_BYTES (HostImageIs a.host) stores.host
    pub verifier : ShowsNode VERIFIER_BYTES (VerifierImageIs a.verifier) stores.verifier
