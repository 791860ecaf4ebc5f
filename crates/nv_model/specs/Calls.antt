-- What each call of a storage does: what a read gives then, what a cut of power may leave, and what is counted.
use Rattle.std.specs.Prelude.{◌≡◌, ℕ, Bool, true, false, List, length, Result, OnOk, IsErrOf}
use Rattle.nv_model.specs.Bytes.{SameOutside, laid, range}
use Rattle.nv_model.specs.Meters.{Meters, Answers, Restarts, after_call, burns}
use Rattle.nv_model.specs.Moments.{Times, Image, Only, Elapses, Tears, Stays, Writes, Unwritten, SamePlaces}
use Rattle.nv_model.specs.declared.{nv.NvFail.NvFail, nv.NvFail.TheVariants.Power, nv.NvFail.TheVariants.Fault}

-- The ghost members of a storage. It exposes its bytes or not, and has a size. Its contents are what a read gives, what was
-- last made durable, and which places were written since. It has its moment and images, and its counts.
module _ {S : Type 0} (tells : Type 0) (size_of : S → ℕ) (content_of base_of : S → List ℕ) (written_in : S → ℕ → Bool) (times_of : S → Times)
    (meters_of : S → Meters)
    (before now : S) where
  -- a read of these bytes, from `at` on
  pub record DidRead (at : ℕ) (bytes : List ℕ) (result : Result (Unit {0}) NvFail) : Type 0 where
    pub bytes_read : tells → OnOk result (bytes ≡ range (content_of before) at (length bytes))
    pub same : tells → content_of now ≡ content_of before
    pub base : tells → base_of now ≡ base_of before
    pub places : tells → SamePlaces (written_in before) (written_in now)
    pub images : tells → Stays (times_of before) (times_of now)
    pub time : tells → Elapses (times_of before) (times_of now)
    pub size : size_of now ≡ size_of before
    pub answer : Answers (meters_of before) (meters_of now) result
    pub fuse : (meters_of now).fuse ≡ (meters_of before).fuse

  -- a write of these bytes, from `at` on
  pub record DidWrite (at : ℕ) (bytes : List ℕ) (result : Result (Unit {0}) NvFail) : Type 0 where
    pub written : tells → OnOk result (content_of now ≡ laid (content_of before) at bytes)
    pub others : tells → IsErrOf result Fault → SameOutside at (length bytes) (content_of before) (content_of now)
    pub base : tells → (IsErrOf result Power → ⊥) → base_of now ≡ base_of before
    pub places : tells → (IsErrOf result Power → ⊥) → Writes at (length bytes) (written_in before) (written_in now)
    pub images : tells → Tears at (length bytes) (times_of before) (times_of now)
    pub off : tells → (meters_of before).lost ≡ true → Stays (times_of before) (times_of now)
    pub time : tells → Elapses (times_of before) (times_of now)
    pub size : size_of now ≡ size_of before
    pub answer : Answers (meters_of before) (meters_of now) result
    pub fuse : (meters_of now).fuse ≡ after_call (meters_of before)
    pub burnt : (meters_of before).lost ≡ false → burns (meters_of before).fuse ≡ true → IsErrOf result Power

  pub record DidSync (result : Result (Unit {0}) NvFail) : Type 0 where
    pub durable : tells → OnOk result (Only (times_of now) (content_of now))
    pub same : tells → OnOk result (content_of now ≡ content_of before)
    pub synced : tells → OnOk result ((base_of now ≡ content_of now) × Unwritten (written_in now))
    pub kept : tells → IsErrOf result Fault → (base_of now ≡ base_of before) × SamePlaces (written_in before) (written_in now)
    pub images : tells → Stays (times_of before) (times_of now)
    pub time : tells → Elapses (times_of before) (times_of now)
    pub size : size_of now ≡ size_of before
    pub answer : Answers (meters_of before) (meters_of now) result
    pub fuse : (meters_of now).fuse ≡ after_call (meters_of before)
    pub burnt : (meters_of before).lost ≡ false → burns (meters_of before).fuse ≡ true → IsErrOf result Power

  pub record DidRestart (result : Result (Unit {0}) NvFail) : Type 0 where
    pub durable : tells → OnOk result (Only (times_of now) (content_of now))
    pub found : tells → OnOk result (Image (times_of before) (content_of now))
    pub synced : tells → OnOk result ((base_of now ≡ content_of now) × Unwritten (written_in now))
    pub kept : tells → IsErrOf result Fault → (base_of now ≡ base_of before) × SamePlaces (written_in before) (written_in now)
    pub images : tells → Stays (times_of before) (times_of now)
    pub time : tells → Elapses (times_of before) (times_of now)
    pub size : size_of now ≡ size_of before
    pub answer : Restarts (meters_of before) (meters_of now) result
