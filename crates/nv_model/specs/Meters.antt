-- What a storage counts, and the causes of its answers.
use Rattle.std.specs.Prelude.{◌≡◌, ◌⊎◌, ℕ, ◌+◌, ◌<◌, zero, suc, Bool, true, false, Option, Some, None, IsSome, IsNone, Result, IsErrOf, IsOk, Ok, ◌≤◌}
use Rattle.bench_base.specs.Causes.{Rose}
use Rattle.nv_model.specs.declared.{nv.NvFail.NvFail, nv.NvFail.TheVariants.Power, nv.NvFail.TheVariants.Fault}

pub record Meters : Type 0 where
  pub cuts : ℕ
  pub faults : ℕ
  pub lost : Bool
  -- of an armed fuse, how many calls it has left
  pub fuse : Option ℕ

-- no count has risen, power is not lost, and no fuse is armed
abbrev pub unharmed : Meters
unharmed = record { cuts = 0; faults = 0; lost = false; fuse = None }

-- a storage with power, and with no fuse
pub record Works (now : Meters) : Type 0 where
  pub powered : now.lost ≡ false
  pub unfused : now.fuse ≡ None

-- a fuse after a call that counts
abbrev pub fuse_after_use : Option ℕ → Option ℕ
fuse_after_use None = None
fuse_after_use (Some zero) = None
fuse_after_use (Some (suc left)) = Some left

-- whether such a call burns it
abbrev pub burns : Option ℕ → Bool
burns None = false
burns (Some zero) = true
burns (Some (suc left)) = false

-- the fuse after a write or a sync: no call counts while power is lost
abbrev pub fuse_after : Bool → Option ℕ → Option ℕ
fuse_after true fuse = fuse
fuse_after false fuse = fuse_after_use fuse

abbrev pub after_call : Meters → Option ℕ
after_call before = fuse_after before.lost before.fuse

-- of an armed fuse, some calls use at most so many, and they arm none
abbrev pub Uses : ℕ → Option ℕ → Option ℕ → Type 0
Uses calls None now = now ≡ None
Uses calls (Some left) None = left < calls
Uses calls (Some left) (Some rest) = (rest ≤ left) × (left ≤ rest + calls)

-- of an armed fuse, calls that went well used exactly so many
abbrev pub UsesExactly : ℕ → Option ℕ → Option ℕ → Type 0
UsesExactly calls None now = now ≡ None
UsesExactly calls (Some left) None = ⊥
UsesExactly calls (Some left) (Some rest) = left ≡ rest + calls

-- power was cut: the count rose, or the fuse burnt
abbrev pub WasCut : Meters → Meters → Type 0
WasCut before now = Rose before.cuts now.cuts ⊎ (IsSome before.fuse × IsNone now.fuse)

-- a call failed in between: a count rose
abbrev pub Failing : Meters → Meters → Type 0
Failing before now = Rose before.cuts now.cuts ⊎ Rose before.faults now.faults

-- how a call of read, write or sync went
pub record Answers (before now : Meters) (result : Result (Unit {0}) NvFail) : Type 0 where
  pub cuts : before.cuts ≤ now.cuts
  pub faults : before.faults ≤ now.faults
  pub fault : IsErrOf result Fault → Rose before.faults now.faults
  pub power : before.lost ≡ false → IsErrOf result Power → WasCut before now
  pub stays_lost : before.lost ≡ true → IsErrOf result Power × (now.lost ≡ true)
  pub loses : IsErrOf result Power → now.lost ≡ true
  pub keeps : before.lost ≡ false → (IsErrOf result Power → ⊥) → now.lost ≡ false

-- how a restart went
pub record Restarts (before now : Meters) (result : Result (Unit {0}) NvFail) : Type 0 where
  pub cuts : before.cuts ≤ now.cuts
  pub faults : before.faults ≤ now.faults
  pub fault : IsErrOf result Fault → Rose before.faults now.faults × (now.lost ≡ before.lost)
  pub power : IsErrOf result Power → Rose before.cuts now.cuts × (now.lost ≡ true)
  pub found : IsOk result → now.lost ≡ false
  pub fuse : now.fuse ≡ before.fuse

-- how some calls went, where power was not lost as they began
pub record Went {T : Type 0} (calls : ℕ) (before now : Meters) (result : Result T NvFail) : Type 0 where
  pub cuts : before.cuts ≤ now.cuts
  pub faults : before.faults ≤ now.faults
  pub fuse : Uses calls before.fuse now.fuse
  pub power : IsErrOf result Power → WasCut before now
  pub fault : IsErrOf result Fault → Rose before.faults now.faults
  pub powered : (IsErrOf result Power → ⊥) → now.lost ≡ false

-- the answer of calls that went well
abbrev pub went_well : Result (Unit {0}) NvFail
went_well = Ok tt

-- the counts don't fall, and no fuse is armed
pub record Counts (before now : Meters) : Type 0 where
  pub cuts : before.cuts ≤ now.cuts
  pub faults : before.faults ≤ now.faults
  pub fuse : before.fuse ≡ None → now.fuse ≡ None
