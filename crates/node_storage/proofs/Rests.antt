-- What a node that is left alone shows.
use Rattle.std.proofs.Common.{◌≡◌, inl, inr, Err, Result, ℕ, List, Option, Some, None, false, refl, sym, ◌∙◌, ap, subst, arith}
use Rattle.std.specs.Prelude.{IsSome}
use Rattle.nv_model.specs.declared.nv.Nv as nv
use Rattle.nv_model.specs.declared.nv.NvFail.{NvFail}
use Rattle.nv_model.specs.declared.nv.NvFail.TheVariants as nv_fail
use Rattle.nv_model.specs.Meters.{Meters, Uses, UsesExactly, WasCut, Restarts}
use Rattle.nv_model.specs.Moments.{Times, Image, Nested, Elapses, Stays}
use Rattle.nv_model.specs.Still.{SameTimes}
use Rattle.nv_model.proofs.Runs.{elapses_none, elapses_twice, stays_twice}
use Rattle.nv_store.specs.Mounts.{Mounts}
use Rattle.nv_store.specs.Turns.{End, Spent, Kept, Cut, Faulted, Turn}
use Rattle.node_acts.specs.Views.{View, stopped}
use Rattle.node_storage.specs.declared.node.Node.{Ghosts}
use Rattle.node_storage.specs.Does.{Reads}
use Rattle.node_storage.specs.Stands.{StoreStands, Stands}

-- no call of a fuse is used
pub uses_none : (calls : ℕ) (f : Option ℕ) → Uses calls f f
uses_none calls None = refl
uses_none calls (Some left) = (omega arith, omega arith)

pub spent_none : (calls : ℕ) (m : Meters) → Spent calls m m Kept
spent_none calls m = record { cuts = omega arith; faults = omega arith; fuse = uses_none calls m.fuse; power = λ e. cc; fault = λ e. cc }

-- a restart uses no call of a fuse, whatever it answers
restart_spends : (m m' : Meters) (result : Result (Unit {0}) NvFail) → Restarts m m' result → Uses 1 m.fuse m'.fuse
restart_spends m m' result went = subst (λ (f : Option ℕ). Uses 1 m.fuse f) (sym went.fuse) (uses_none 1 m.fuse)

pub restart_cut : (m m' : Meters) (f : NvFail) → Restarts m m' (Err f) → f ≡ nv_fail.Power → Spent 1 m m' Cut
restart_cut m m' f went is = record {
  cuts = went.cuts;
  faults = went.faults;
  fuse = restart_spends m m' (Err f) went;
  power = λ e. inl (went.power (ap (λ (x : NvFail). Err x) is)).0;
  fault = λ e. cc;
}

pub restart_faulted : (m m' : Meters) (f : NvFail) → Restarts m m' (Err f) → f ≡ nv_fail.Fault → Spent 1 m m' Faulted
restart_faulted m m' f went is = record {
  cuts = went.cuts;
  faults = went.faults;
  fuse = restart_spends m m' (Err f) went;
  power = λ e. cc;
  fault = λ e. (went.fault (ap (λ (x : NvFail). Err x) is)).0;
}

-- what calls cost after a restart is what they cost with it
pub spent_after : (m mid now : Meters) (end : End) (result : Result (Unit {0}) NvFail) → Restarts m mid result → Spent 1 mid now end → Spent 1 m now end
spent_after m mid now end result went spent = record {
  cuts = omega (arith, went.cuts, spent.cuts);
  faults = omega (arith, went.faults, spent.faults);
  fuse = subst (λ (f : Option ℕ). Uses 1 f now.fuse) went.fuse spent.fuse;
  power = λ e. was_cut (spent.power e);
  fault = λ e. let rose = spent.fault e in omega (arith, went.faults, rose);
}
  where
    was_cut : WasCut mid now → WasCut m now
    was_cut (inl rose) = inl (omega (arith, went.cuts, rose))
    was_cut (inr burnt) = inr (subst (λ (f : Option ℕ). IsSome f) went.fuse burnt.0, burnt.1)

pub once_after : (m mid now : Meters) (result : Result (Unit {0}) NvFail) → Restarts m mid result → UsesExactly 1 mid.fuse now.fuse → UsesExactly 1 m.fuse now.fuse
once_after m mid now result went once = subst (λ (f : Option ℕ). UsesExactly 1 f now.fuse) went.fuse once

-- nothing is written by calls that write nothing, one after the other
pub mounts_twice : (before mid now : Times) → Nested mid → Nested now → Elapses before mid → Stays before mid → Mounts mid now → Mounts before now
mounts_twice before mid now nested_mid nested time stays mounts = record {
  images = stays_twice before mid now nested_mid time mounts.time stays mounts.images;
  time = elapses_twice before mid now nested time mounts.time;
}

pub mounts_none : (now : Times) → Mounts now now
mounts_none now = record { images = λ c is. is; time = elapses_none now }

-- while time stands still nothing is written
pub mounts_same : (before now : Times) → SameTimes before now → Mounts before now
mounts_same before now same = record {
  images = λ c is. same.since before.moment c is;
  time = record {
    later = omega (arith, same.moment);
    nothing_else = λ t c le is. inl (same.since t c is);
    keeps = λ t c le is. same.back t c is;
  };
}

-- a call that touches nothing
pub turn_none : (Old New : List ℕ → Type 0) (now : Times) → ((c : List ℕ) → Image now c → Old c) → Turn Old New now now Kept
turn_none Old New now known = record {
  time = elapses_none now;
  any_moment = λ c is. inl (known c is);
  kept = λ end. known;
  made = λ end. cc;
}

-- two calls that read a storage, one after the other
pub reads_twice : {S : Type 0} (g : nv.Ghosts S) → ((s : S) → g.tells → Nested (g.times s)) → (before mid now : S) → Reads g before mid → Reads g mid now → Reads g before now
reads_twice g nested before mid now first second = record {
  mounts = λ tells.
      let mounts = first.mounts tells in
      mounts_twice (g.times before) (g.times mid) (g.times now) (nested mid tells) (nested now tells) mounts.time mounts.images (second.mounts tells);
  size = second.size ∙ first.size;
}

module _ {K S N C R : Type 0} (n : Ghosts K S N C R) (g : nv.Ghosts S) where
  -- the storage of a node, after calls that wrote nothing
  pub store_stays : (nested : (s : S) → g.tells → Nested (g.times s)) (d : N) (v : View n.Seen) (before now : S) → StoreStands n g d v before
      → g.size now ≡ g.size before → (g.tells → Mounts (g.times before) (g.times now)) → StoreStands n g d v now
  store_stays nested d v before now stands size mounts = record {
    size = size ∙ stands.size;
    sound = stands.sound;
    shows = λ tells image is. stands.shows tells image
        ((mounts tells).images image (nested now tells (g.times before).moment (g.times now).moment image (mounts tells).time.later is));
  }

  -- a node that is switched off
  pub stops : (d : N) (v : View n.Seen) (s t : K) → n.is_on t ≡ false → n.storage t ≡ n.storage s → Stands n g d v s → Stands n g d (stopped v) t
  stops d v s t off same stands = record {
    on = off;
    store = subst (λ (i : S). StoreStands n g d (stopped v) i) (sym same) (record {
      size = stands.store.size;
      sound = λ tells. record { state = (stands.store.sound tells).state; next = (stands.store.sound tells).next; more = (stands.store.sound tells).more };
      shows = stands.store.shows;
    });
    runs = λ is. cc;
  }

-- an image after a mount is one of its beginning
pub image_before : (before now : Times) (c : List ℕ) → Mounts before now → Nested now → Image now c → Image before c
image_before before now c mounts nested image = mounts.images c (nested before.moment now.moment c mounts.time.later image)
