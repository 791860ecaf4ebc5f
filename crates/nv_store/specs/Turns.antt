-- What a call of a node leaves in its storage and costs it. All is said of values, so each layer above a node has the very same facts.
use Rattle.std.specs.Prelude.{◌≡◌, ◌⊎◌, ℕ, ◌≤◌, List}
use Rattle.bench_base.specs.Causes.{Rose}
use Rattle.nv_model.specs.Meters.{Meters, WasCut, Uses}
use Rattle.nv_model.specs.Moments.{Times, Image, Elapses}

-- how a call ended for the storage: nothing was committed, the commit was made, power was cut, or the storage failed
pub data End : Type 0 where
  Kept : End
  Made : End
  Cut : End
  Faulted : End

-- What a call leaves: `Old` are the images that show what was before it, `New` those that show its commit too.
pub record Turn (Old New : List ℕ → Type 0) (before now : Times) (end : End) : Type 0 where
  pub time : Elapses before now
  pub any_moment : (c : List ℕ) → now.since before.moment c → Old c ⊎ New c
  pub kept : end ≡ Kept → (c : List ℕ) → Image now c → Old c
  pub made : end ≡ Made → (c : List ℕ) → Image now c → New c

-- What a call costs, whether or not the storage exposes its contents: it uses at most so many calls of a fuse.
pub record Spent (calls : ℕ) (before now : Meters) (end : End) : Type 0 where
  pub cuts : before.cuts ≤ now.cuts
  pub faults : before.faults ≤ now.faults
  pub fuse : Uses calls before.fuse now.fuse
  pub power : end ≡ Cut → WasCut before now
  pub fault : end ≡ Faulted → Rose before.faults now.faults
