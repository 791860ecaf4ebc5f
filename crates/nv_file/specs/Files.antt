-- What contracts see of a storage in a file: which part of it was written and may not be on the disk yet.
use Rattle.std.specs.Prelude.{◌≡◌, ◌⊎◌, Bool, true, false, Option, Some, None, Result, IsOk, IsErr}
use Rattle.nv_file.specs.Ranges.{Range, joined, leaves_a_gap}
use Rattle.nv_model.specs.declared.nv.NvFail.{NvFail}
use Rattle.nv_file.specs.declared.file.FileNv.{FileNv}

-- the range that was written since the last sync that succeeded, and whether a write or a sync failed since
pub record Unsynced : Type 0 where
  pub range : Option Range
  pub failed : Bool

abbrev pub unsynced : FileNv → Unsynced
unsynced s = record { range = s.range; failed = s.failed }

abbrev pub nothing_unsynced : Unsynced
nothing_unsynced = record { range = None; failed = false }

-- what isn't synced after a write of a range
abbrev pub after_write : Unsynced → Range → Bool → Unsynced
after_write old new failed = record { range = Some (joined old.range new); failed = failed }

-- After a write or sync that failed no write begins until a sync has succeeded. A write that fails is not synced either,
-- but where the sync before it failed already.
pub record WriteIs (old new : Unsynced) (written : Range) (result : Result (Unit {0}) NvFail) : Type 0 where
  pub refused : old.failed ≡ true → IsErr result × (new ≡ old)
  pub done : IsOk result → new ≡ after_write old written false
  pub failed : IsErr result → old.failed ≡ false → (new ≡ after_write old written true)
      ⊎ ((leaves_a_gap old.range written ≡ true) × (new ≡ record { range = old.range; failed = true }))

-- A sync that fails forgets nothing.
pub record SyncIs (old new : Unsynced) (result : Result (Unit {0}) NvFail) : Type 0 where
  pub synced : IsOk result → new ≡ nothing_unsynced
  pub failed : IsErr result → new ≡ record { range = old.range; failed = true }
