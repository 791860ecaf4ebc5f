-- What a commit and a mount over lent parts do: a storage, and the head and payload of its one cell.
use Rattle.std.specs.Prelude.{◌≡◌, ◌≢◌, ℕ, ◌+◌, ◌*◌, ◌<◌, ◌^◌, List, Some, None, false, Result, Err, OnOk, OnErr, IfOk, IfErr, IsErrOf, MatchResult, is_ok}
use Rattle.bench_base.specs.declared.refusals.StoreFail.{StoreFail}
use Rattle.bench_base.specs.declared.refusals.StoreFail.TheVariants as store
use Rattle.nv_model.specs.declared.nv.Nv.{Ghosts}
use Rattle.nv_model.specs.Meters.{UsesExactly}
use Rattle.nv_model.specs.Moments.{Only, Elapses}
use Rattle.nv_store.specs.Slot.{slots_at}
use Rattle.nv_store.specs.Cells.{next_of}
use Rattle.nv_store.specs.Fails.{ends_failed}
use Rattle.nv_store.specs.Store.{one_held, OnlyShows, Between, Causes, Holds, commit_calls, next_is_open}
use Rattle.nv_store.specs.Fills.{Fills, fill, told}
use Rattle.nv_store.specs.Mounts.{Mounts, MountCauses}
use Rattle.nv_store.specs.Scans.{IsMixed}
use Rattle.nv_store.specs.declared.{head.Head.Head, causes.MountCause.MountCause, causes.MountCause.TheVariants.Size, causes.MountCause.TheVariants.Mixed}

-- the parts, side by side
pub record Parts (N : Type 0) : Type 0 where
  pub nv : N
  pub head : Head
  pub kept : List ℕ

abbrev pub parts : {N : Type 0} → N → Head → List ℕ → Parts N
parts nv head kept = record { nv = nv; head = head; kept = kept }

-- what a commit to a cell of n slots does to head and payload
pub record KeepsPace {N : Type 0} (n : ℕ) (before now : Parts N) (payload : List ℕ) (result : Result (Unit {0}) StoreFail) : Type 0 where
  pub done : OnOk result ((now.head.count ≡ before.head.count + 1) × (now.kept ≡ payload)
      × (now.head.place ≡ next_of before.head.count before.head.place n))
  pub fits : OnOk result (now.head.count < 2 ^ 32)
  pub same : OnErr result ((now.head ≡ before.head) × (now.kept ≡ before.kept))
  pub inside : 0 < now.head.count → now.head.place < n

-- and what its storage may show: at every moment each image the old or the new, and after Ok the only one the new
pub record ShowsEither {N : Type 0} (g : Ghosts N) (L n : ℕ) (before now : Parts N) (payload : List ℕ) (result : Result (Unit {0}) StoreFail) : Type 0 where
  pub any_moment : g.tells → (c : List ℕ) → (g.times now.nv).since (g.times before.nv).moment c
      → Between L n 1 0 (λ k. one_held before.head.count before.kept) payload c
  pub time : g.tells → Elapses (g.times before.nv) (g.times now.nv)
  pub shows : g.tells → OnOk result (OnlyShows L n 1 (λ k. one_held now.head.count now.kept) (g.times now.nv) (g.content now.nv))

-- what a commit of a payload of L bytes to a cell of n slots did: unless the storage failed, the next one may come
pub record CommitsParts {N : Type 0} (g : Ghosts N) (L n : ℕ) (before now : Parts N) (payload : List ℕ) (result : Result (Unit {0}) StoreFail) : Type 0 where
  pub keeps : KeepsPace n before now payload result
  pub images : ShowsEither g L n before now payload result
  pub powered : ends_failed result ≡ false → (g.meters now.nv).lost ≡ false
  pub holds : g.tells → ends_failed result ≡ false → Holds L n now.head now.kept (g.times now.nv) (g.content now.nv)
  pub causes : Causes (g.meters before.nv) (g.meters now.nv) false before.head.count result
  pub calls : OnOk result (UsesExactly (commit_calls (next_is_open n before.head)) (g.meters before.nv).fuse (g.meters now.nv).fuse)
  pub fills : g.tells → (IsErrOf result store.Worn → ⊥)
      → Fills (fill L n 0 (before.head.count + 1, payload)) (told g before.nv) (told g now.nv) (is_ok result)
  pub worn : IsErrOf result store.Worn → now.nv ≡ before.nv
  pub size : g.size now.nv ≡ g.size before.nv

-- what a mount of a cell of n slots with a payload of L bytes found, the payload in `kept`
pub record MountsParts {N : Type 0} (g : Ghosts N) (L n : ℕ) (before now : N) (kept : List ℕ) (result : Result Head MountCause) : Type 0 where
  pub size : g.size before ≢ 16 * (5 + L) → (result ≡ Err (Size (g.size before))) × (now ≡ before)
  pub of_size : IfErr result (λ cause. (m : ℕ) → cause ≡ Size m → g.size before ≢ 16 * (5 + L))
  pub mixed : g.tells → IfErr result (λ cause. (k : ℕ) → cause ≡ Mixed k
      → (k ≡ 0) × Only (g.times now) (g.content now) × IsMixed n (slots_at L 0 (g.content now)))
  pub mounts : g.tells → Mounts (g.times before) (g.times now)
  pub holds : g.tells → IfOk result (λ head. Holds L n head kept (g.times now) (g.content now))
  pub shows : g.tells → IfOk result (λ head. OnlyShows L n 1 (λ k. one_held head.count kept) (g.times now) (g.content now))
  pub inside : IfOk result (λ head. head.place < n)
  pub causes : MatchResult result (λ head. MountCauses (g.meters before) (g.meters now) None)
      (λ cause. MountCauses (g.meters before) (g.meters now) (Some cause))
  pub bytes : g.size now ≡ g.size before
