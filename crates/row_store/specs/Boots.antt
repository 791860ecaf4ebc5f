-- Rows out of storage: why a boot fails, and what it costs.
use Rattle.std.specs.Prelude.{◌≡◌, ◌≤◌, Option, Some, None, Result, Ok, Err}
use Rattle.bench_base.specs.Causes.{Rose}
use Rattle.bench_base.specs.declared.refusals.BootFail.{BootFail}
use Rattle.bench_base.specs.declared.refusals.BootFail.TheVariants as boot
use Rattle.nv_model.specs.Meters.{Meters, WasCut, Uses}
use Rattle.nv_store.specs.declared.causes.MountCause.{MountCause}
use Rattle.nv_store.specs.declared.causes.MountCause.TheVariants as mount

abbrev pub boot_fail : MountCause → BootFail
boot_fail mount.Power = boot.Power
boot_fail mount.Fault = boot.Fault
boot_fail (mount.Size n) = boot.Damaged
boot_fail (mount.Mixed k) = boot.Damaged

-- why it failed, if it did
abbrev pub fail_in : Result (Unit {0}) BootFail → Option BootFail
fail_in (Ok done) = None
fail_in (Err fail) = Some fail

-- why a boot ended so, if it failed, and what it costs the storage
pub record BootCauses (before now : Meters) (fail : Option BootFail) : Type 0 where
  pub cuts : before.cuts ≤ now.cuts
  pub faults : before.faults ≤ now.faults
  pub fuse : Uses 1 before.fuse now.fuse
  pub power : fail ≡ Some boot.Power → WasCut before now
  pub fault : fail ≡ Some boot.Fault → Rose before.faults now.faults
