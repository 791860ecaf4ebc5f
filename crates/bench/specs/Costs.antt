-- How often failures are answered over several events, whether or not the storages expose their contents.
use Rattle.std.specs.Prelude.{ℕ, ◌+◌, ◌≤◌, ◌<◌, ◌-◌, ◌^◌, Bool, true, false, Option, Some, None}
use Rattle.nv_model.specs.Meters.{Meters}

abbrev pub one_if : Bool → ℕ
one_if true = 1
one_if false = 0

abbrev pub armed : Option ℕ → ℕ
armed None = 0
armed (Some left) = 1

-- One node answered so many power failures, faults and `cut`s, with these counts before and after. While no count has
-- reached its end, each power failure raised the count of cuts or used up a fuse that a `cut` or nobody armed, and each
-- fault raised that of faults.
pub record Balanced (powers failures cutsets : ℕ) (was is : Meters) : Type 0 where
  pub cuts : was.cuts ≤ is.cuts
  pub faults : was.faults ≤ is.faults
  pub power : is.cuts < 2 ^ 64 - 1 → was.cuts + (powers + armed is.fuse) ≤ is.cuts + (cutsets + armed was.fuse)
  pub fault : is.faults < 2 ^ 64 - 1 → was.faults + failures ≤ is.faults
