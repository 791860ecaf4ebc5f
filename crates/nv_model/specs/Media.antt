-- A medium, as the trait of storages sees it.
use Rattle.std.specs.Prelude.{ℕ, Bool, true, ◌≡◌, length, ◌≤◌, vec_capacity}
use Rattle.nv_model.specs.Moments.{Times}
use Rattle.nv_model.specs.Replay.{Stand, replay, at_first, marked, SinceMoment}
use Rattle.nv_model.specs.declared.medium.Medium.{Medium}

abbrev pub stand_of : Medium → Stand
stand_of m = replay m.bytes.items m.steps.items (at_first m.start.items)

abbrev pub written_of : Medium → ℕ → Bool
written_of m = marked (stand_of m).written m.marks.items

abbrev pub times_of : Medium → Times
times_of m = record { moment = length m.steps.items; since = λ t c. SinceMoment m.bytes.items m.steps.items m.start.items m.marks.items t c }

-- the room of the record stays
pub record KeepsRoom (old new : Medium) : Type 0 where
  pub steps : vec_capacity old.steps ≤ vec_capacity new.steps
  pub bytes : vec_capacity old.bytes ≤ vec_capacity new.bytes

-- what was written stays so
abbrev pub StaysWritten : Medium → Medium → Type 0
StaysWritten old new = (i : ℕ) → (stand_of old).written i ≡ true → (stand_of new).written i ≡ true
