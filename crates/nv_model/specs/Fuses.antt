-- What contracts see of a storage with a fuse.
use Rattle.std.specs.Prelude.{◌≡◌, ◌⊎◌, ℕ, List, length, Bool, true, false, Option, IsSome, Result}
use Rattle.nv_model.specs.Meters.{burns, Failing}
use Rattle.nv_model.specs.Moments.{Only}
use Rattle.nv_model.specs.Plans.{torn, last_filled, last_after_write, last_after_sync}
use Rattle.nv_model.specs.declared.{nv.NvFail.NvFail, nv.Nv.Ghosts, fused.Fused.Fused}

-- the storage inside
abbrev pub inside : {N : Type 0} {g : Ghosts N} → Fused N g → N
inside s = s.nv

-- Whether power is lost, and how many calls an armed fuse has left. What a tear keeps of a range, and what it fills the
-- rest with. The range of the last write that succeeded since the last sync or restart that succeeded.
pub record FuseState : Type 0 where
  pub lost : Bool
  pub fuse : Option ℕ
  pub keep : ℕ
  pub byte : ℕ
  pub last : Option (ℕ × ℕ)

abbrev pub state_of : {N : Type 0} {g : Ghosts N} → Fused N g → FuseState
state_of s = record { lost = s.lost; fuse = s.fuse; keep = s.keep; byte = s.byte; last = s.last }

-- While power is lost the storage inside is left alone. A call that burns the fuse tears its range, unless the storage
-- inside fails. Every other call is that of the storage inside.
pub record WriteIs {N : Type 0} {g : Ghosts N} (old new : Fused N g) (at : ℕ) (bytes : List ℕ) (result : Result (Unit {0}) NvFail) : Type 0 where
  pub off : old.lost ≡ true → inside new ≡ inside old
  pub torn : old.lost ≡ false → burns old.fuse ≡ true → g.tells
      → (g.content (inside new) ≡ torn (g.content (inside old)) at bytes old.keep old.byte) ⊎ Failing (g.meters (inside old)) (g.meters (inside new))
  pub durable : old.lost ≡ false → burns old.fuse ≡ true → g.tells
      → Only (g.times (inside new)) (g.content (inside new)) ⊎ Failing (g.meters (inside old)) (g.meters (inside new))
  pub passed : old.lost ≡ false → burns old.fuse ≡ false → g.write_is (inside old) (inside new) at bytes result
  pub last : new.last ≡ last_after_write result at (length bytes) old.last
  pub tear : (new.keep ≡ old.keep) × (new.byte ≡ old.byte)

pub record SyncIs {N : Type 0} {g : Ghosts N} (old new : Fused N g) (result : Result (Unit {0}) NvFail) : Type 0 where
  pub off : old.lost ≡ true → inside new ≡ inside old
  pub torn : old.lost ≡ false → burns old.fuse ≡ true → g.tells
      → (g.content (inside new) ≡ last_filled old.last (g.content (inside old)) old.keep old.byte) ⊎ Failing (g.meters (inside old)) (g.meters (inside new))
  pub durable : old.lost ≡ false → burns old.fuse ≡ true → IsSome old.last → g.tells
      → Only (g.times (inside new)) (g.content (inside new)) ⊎ Failing (g.meters (inside old)) (g.meters (inside new))
  pub passed : old.lost ≡ false → burns old.fuse ≡ false → g.sync_is (inside old) (inside new) result
  pub last : new.last ≡ last_after_sync result old.last
  pub tear : (new.keep ≡ old.keep) × (new.byte ≡ old.byte)

pub record ReadIs {N : Type 0} {g : Ghosts N} (old new : Fused N g) (result : Result (Unit {0}) NvFail) : Type 0 where
  pub off : old.lost ≡ true → inside new ≡ inside old
  pub passed : old.lost ≡ false → g.read_is (inside old) (inside new) result
  pub last : new.last ≡ old.last
  pub tear : (new.keep ≡ old.keep) × (new.byte ≡ old.byte)

pub record RestartIs {N : Type 0} {g : Ghosts N} (old new : Fused N g) (result : Result (Unit {0}) NvFail) : Type 0 where
  pub passed : g.restart_is (inside old) (inside new) result
  pub last : new.last ≡ last_after_sync result old.last
  pub tear : (new.keep ≡ old.keep) × (new.byte ≡ old.byte)
