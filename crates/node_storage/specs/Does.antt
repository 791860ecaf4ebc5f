-- What the calls of a node do to its record and its storage.
use Rattle.std.specs.Prelude.{◌≡◌, ◌↔◌, ◌⊎◌, List, ℕ, Bool, true, Result, Ok, Err, OnOk, OnErr, IsErrOf}
use Rattle.bench_base.specs.declared.{refusals.BootFail.BootFail, refusals.StoreFail.StoreFail, refusals.StoreFail.TheVariants.Worn, refusals.StoreFail.TheVariants.Failed}
use Rattle.bench_base.specs.declared.refusals.BootFail.TheVariants as boot
use Rattle.nv_model.specs.declared.{nv.Nv.Ghosts, nv.NvFail.NvFail}
use Rattle.nv_model.specs.Meters.{Restarts, UsesExactly}
use Rattle.nv_model.specs.Moments.{Elapses}
use Rattle.nv_store.specs.Fills.{Fill, Fills, told}
use Rattle.nv_store.specs.Mounts.{Mounts}
use Rattle.nv_store.specs.Store.{UsesCommit}
use Rattle.nv_store.specs.Turns.{End, Spent}
use Rattle.node_acts.specs.Views.{Counting}

-- a storage was read, and nothing was written
pub record Reads {S : Type 0} (g : Ghosts S) (before now : S) : Type 0 where
  pub mounts : g.tells → Mounts (g.times before) (g.times now)
  pub size : g.size now ≡ g.size before

-- what calls on a storage cost it: of a fuse they use at most so many calls
abbrev pub Spends : {S : Type 0} → Ghosts S → ℕ → S → S → End → Type 0
Spends g calls before now end = Spent calls (g.meters before) (g.meters now) end

-- of a fuse they use exactly one call
abbrev pub SpendsOne : {S : Type 0} → Ghosts S → S → S → Type 0
SpendsOne g before now = UsesExactly 1 (g.meters before).fuse (g.meters now).fuse

-- a boot that came to read made one sync: where it went well, or found damage in storage of so many bytes
abbrev pub SyncsOnce : {S : Type 0} → Ghosts S → ℕ → S → S → Result (Unit {0}) BootFail → Type 0
SyncsOnce g bytes before now (Ok done) = SpendsOne g before now
SyncsOnce g bytes before now (Err boot.Power) = Unit {0}
SyncsOnce g bytes before now (Err boot.Fault) = Unit {0}
SyncsOnce g bytes before now (Err boot.Damaged) = g.size before ≡ bytes → SpendsOne g before now

abbrev pub RestartIs : {S : Type 0} → Ghosts S → S → S → Result (Unit {0}) NvFail → Type 0
RestartIs g before now result = Restarts (g.meters before) (g.meters now) result

-- how a commit of this change ended for the record: Worn comes if and only if the change's cell has all its commits
pub record Commits {S X : Type 0} (n : Counting S X) (before now : S) (change : X) (result : Result (Unit {0}) StoreFail) : Type 0 where
  pub worn : IsErrOf result Worn ↔ (n.is_worn before change ≡ true)
  pub not_failed : IsErrOf result Failed → ⊥
  pub done : OnOk result (now ≡ n.after before change)

-- what it left as it was: the record where the change was not committed, and what is beside the record
pub record Leaves {S : Type 0} (before now : S) (Beside : Type 0) (result : Result (Unit {0}) StoreFail) : Type 0 where
  pub record_stays : OnErr result (now ≡ before)
  pub beside : Beside

-- and for the storage: at every moment each image shows the record before it, or that after it
pub record Stores {S : Type 0} (g : Ghosts S) (IsOld IsNew : List ℕ → Type 0) (before now : S) (end : End) : Type 0 where
  pub any_moment : g.tells → (c : List ℕ) → (g.times now).since (g.times before).moment c → IsOld c ⊎ IsNew c
  pub time : g.tells → Elapses (g.times before) (g.times now)
  pub spent : Spends g 6 before now end
  pub size : g.size now ≡ g.size before

-- by bytes: if it began to write, it fills the next slot of the cell, and if it was made, it used four calls or six
pub record Writes {S : Type 0} (g : Ghosts S) (w : Fill) (before now : S) (began made : Bool) : Type 0 where
  pub fills : g.tells → began ≡ true → Fills w (told g before) (told g now) made
  pub calls : made ≡ true → UsesCommit (g.meters before).fuse (g.meters now).fuse
