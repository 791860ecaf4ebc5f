-- What a mount does to its storage, and why it answers so.
use Rattle.std.specs.Prelude.{◌≡◌, ◌≢◌, ◌≤◌, ℕ, ◌+◌, ◌*◌, Bool, true, false, Option, Some, None, Result, Err, IfOk, IfErr, MatchResult}
use Rattle.bench_base.specs.Causes.{Rose}
use Rattle.nv_model.specs.declared.nv.Nv.{Ghosts}
use Rattle.nv_model.specs.Meters.{Meters, WasCut, Uses, UsesExactly}
use Rattle.nv_model.specs.Moments.{Times, Only, Elapses, Stays}
use Rattle.nv_store.specs.Slot.{Held, slots_at}
use Rattle.nv_store.specs.Scans.{IsMixed}
use Rattle.nv_store.specs.Store.{OnlyShows}
use Rattle.nv_store.specs.declared.{causes.MountCause.MountCause, causes.MountCause.TheVariants.Power, causes.MountCause.TheVariants.Fault, causes.MountCause.TheVariants.Size, causes.MountCause.TheVariants.Mixed}

-- nothing is written: each image at every moment since the mount began is one of those at its beginning
pub record Mounts (before now : Times) : Type 0 where
  pub images : Stays before now
  pub time : Elapses before now

-- whether a mount that failed so, or did not fail, came to read the cells
abbrev pub came_to_read : Option MountCause → Bool
came_to_read None = true
came_to_read (Some Power) = false
came_to_read (Some Fault) = false
came_to_read (Some (Size n)) = false
came_to_read (Some (Mixed k)) = true

-- why a mount ended so, if it failed, and what it costs the storage: exactly one sync, if it came to read
pub record MountCauses (before now : Meters) (cause : Option MountCause) : Type 0 where
  pub cuts : before.cuts ≤ now.cuts
  pub faults : before.faults ≤ now.faults
  pub fuse : Uses 1 before.fuse now.fuse
  pub once : came_to_read cause ≡ true → UsesExactly 1 before.fuse now.fuse
  pub power : cause ≡ Some Power → WasCut before now
  pub fault : cause ≡ Some Fault → Rose before.faults now.faults
  pub powered : (cause ≡ Some Power → ⊥) → now.lost ≡ false

-- what a mount of one cell of n slots found, which gives the storage back where it failed
pub record MountsOne {N C : Type 0} (g : Ghosts N) (L n : ℕ) (storage_of : C → N) (held_by : C → Option Held) (has_failed : C → Bool)
    (nv : N) (result : Result C (N × MountCause)) : Type 0 where
  pub size : g.size nv ≢ 16 * (5 + L) → result ≡ Err (nv, Size (g.size nv))
  pub of_size : IfErr result (λ e. (m : ℕ) → e.1 ≡ Size m → g.size nv ≢ 16 * (5 + L))
  pub mixed : g.tells → IfErr result (λ e. (k : ℕ) → e.1 ≡ Mixed k
      → (k ≡ 0) × Only (g.times e.0) (g.content e.0) × IsMixed n (slots_at L 0 (g.content e.0)))
  pub mounts : g.tells → MatchResult result (λ c. Mounts (g.times nv) (g.times (storage_of c))) (λ e. Mounts (g.times nv) (g.times e.0))
  pub shows : g.tells → IfOk result (λ c. OnlyShows L n 1 (λ k. held_by c) (g.times (storage_of c)) (g.content (storage_of c)))
  pub works : IfOk result (λ c. has_failed c ≡ false)
  pub causes : MatchResult result (λ c. MountCauses (g.meters nv) (g.meters (storage_of c)) None)
      (λ e. MountCauses (g.meters nv) (g.meters e.0) (Some e.1))
  pub bytes : MatchResult result (λ c. g.size (storage_of c) ≡ g.size nv) (λ e. g.size e.0 ≡ g.size nv)
