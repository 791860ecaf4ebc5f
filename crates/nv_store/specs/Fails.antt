-- A storage's failure, as a store and a mount answer it.
use Rattle.std.specs.Prelude.{Bool, true, false, Result, Ok, Err}
use Rattle.bench_base.specs.declared.refusals.StoreFail.{StoreFail}
use Rattle.bench_base.specs.declared.refusals.StoreFail.TheVariants as store
use Rattle.nv_model.specs.declared.nv.NvFail.{NvFail}
use Rattle.nv_model.specs.declared.nv.NvFail.TheVariants as nv
use Rattle.nv_store.specs.declared.causes.MountCause.{MountCause}
use Rattle.nv_store.specs.declared.causes.MountCause.TheVariants as mount

abbrev pub store_fail : NvFail → StoreFail
store_fail nv.Power = store.Power
store_fail nv.Fault = store.Fault

abbrev pub mount_fail : NvFail → MountCause
mount_fail nv.Power = mount.Power
mount_fail nv.Fault = mount.Fault

-- whether the storage failed, so that the value is no longer used
abbrev pub is_failure : StoreFail → Bool
is_failure store.Power = true
is_failure store.Fault = true
is_failure store.Worn = false
is_failure store.Failed = false

-- whether a commit ended so
abbrev pub ends_failed : Result (Unit {0}) StoreFail → Bool
ends_failed (Ok done) = false
ends_failed (Err fail) = is_failure fail
