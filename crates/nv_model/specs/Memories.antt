-- What a storage in memory does, exactly.
use Rattle.std.specs.Prelude.{◌≡◌, ℕ, ◌+◌, List, length, Bool, false, Option, None, Result, ◌&&◌, ◌||◌, not, nat_lt, nat_le}
use Rattle.nv_model.specs.Meters.{Meters, unharmed}
use Rattle.nv_model.specs.Plans.{planned, read_answer, call_answer, restart_answer, write_leaves, sync_leaves, last_after_write, last_after_sync, next_number, room_taken, after_answer, after_restart}
use Rattle.nv_model.specs.Tallies.{meters_of}
use Rattle.nv_model.specs.declared.{memory.MemNv.MemNv, nv.NvFail.NvFail, plan.Failure.Failure}

pub record Memory : Type 0 where
  -- what a read gives
  pub content : List ℕ
  pub plan : List Failure
  -- the number of the next call of read, write or sync
  pub number : ℕ
  -- the room of the record, in calls and in written bytes, and what is used of it
  pub calls : ℕ
  pub bytes : ℕ
  pub used_calls : ℕ
  pub used_bytes : ℕ
  -- a call was made that didn't fit the record
  pub full : Bool
  -- the range of the last write that succeeded since the last sync or restart that succeeded
  pub last : Option (ℕ × ℕ)
  pub meters : Meters

abbrev pub memory_of : MemNv → Memory
memory_of s = record {
  content = s.medium.content.items;
  plan = s.plan.items;
  number = s.number;
  calls = s.calls;
  bytes = s.bytes;
  used_calls = s.used;
  used_bytes = length s.medium.bytes.items;
  full = s.full;
  last = s.last;
  meters = meters_of s.tally;
}

abbrev pub new_memory : List ℕ → List Failure → ℕ → ℕ → Memory
new_memory content plan calls bytes = record {
  content = content;
  plan = plan;
  number = 0;
  calls = calls;
  bytes = bytes;
  used_calls = 0;
  used_bytes = 0;
  full = false;
  last = None;
  meters = unharmed;
}

-- the record has room for one call more, of so many bytes
abbrev pub has_room : Bool → ℕ → ℕ → ℕ → ℕ → Bool
has_room full used calls bytes room = not full && (nat_lt used calls && nat_le bytes room)

abbrev pub fits : Memory → ℕ → Bool
fits m n = has_room m.full m.used_calls m.calls (m.used_bytes + n) m.bytes

-- the entry of the plan for the next call
abbrev pub next_planned : Memory → Option Failure
next_planned m = planned m.plan m.number

-- once a call that begins with power doesn't fit, the record is full for good
abbrev pub full_after : Bool → Bool → Bool → Bool
full_after full lost fits = full || (not lost && not fits)

pub record ReadIs (old new : Memory) (result : Result (Unit {0}) NvFail) : Type 0 where
  pub answer : result ≡ read_answer old.meters.lost (next_planned old)
  pub number : new.number ≡ next_number old.number
  pub meters : new.meters ≡ after_answer old.meters.lost old.meters result
  pub stays : new ≡ record old { number = new.number; meters = new.meters }

pub record WriteIs (old new : Memory) (at : ℕ) (bytes : List ℕ) (result : Result (Unit {0}) NvFail) : Type 0 where
  pub answer : result ≡ call_answer old.meters.lost (fits old (length bytes)) (next_planned old)
  pub leaves : new.content ≡ write_leaves old.meters.lost (fits old (length bytes)) (next_planned old) old.content at bytes
  pub last : new.last ≡ last_after_write result at (length bytes) old.last
  pub full : new.full ≡ full_after old.full old.meters.lost (fits old (length bytes))
  pub number : new.number ≡ next_number old.number
  pub used_calls : new.used_calls ≡ old.used_calls + room_taken old.meters.lost (fits old (length bytes)) 1
  pub used_bytes : new.used_bytes ≡ old.used_bytes + room_taken old.meters.lost (fits old (length bytes)) (length bytes)
  pub meters : new.meters ≡ after_answer old.meters.lost old.meters result
  pub room : (new.plan ≡ old.plan) × (new.calls ≡ old.calls) × (new.bytes ≡ old.bytes)

pub record SyncIs (old new : Memory) (result : Result (Unit {0}) NvFail) : Type 0 where
  pub answer : result ≡ call_answer old.meters.lost (fits old 0) (next_planned old)
  pub leaves : new.content ≡ sync_leaves old.meters.lost (fits old 0) (next_planned old) old.last old.content
  pub last : new.last ≡ last_after_sync result old.last
  pub full : new.full ≡ full_after old.full old.meters.lost (fits old 0)
  pub number : new.number ≡ next_number old.number
  pub used_calls : new.used_calls ≡ old.used_calls + room_taken old.meters.lost (fits old 0) 1
  pub used_bytes : new.used_bytes ≡ old.used_bytes
  pub meters : new.meters ≡ after_answer old.meters.lost old.meters result
  pub room : (new.plan ≡ old.plan) × (new.calls ≡ old.calls) × (new.bytes ≡ old.bytes)

pub record RestartIs (old new : Memory) (result : Result (Unit {0}) NvFail) : Type 0 where
  pub answer : result ≡ restart_answer (fits old 0)
  pub leaves : new.content ≡ old.content
  pub last : new.last ≡ last_after_sync result old.last
  pub full : new.full ≡ full_after old.full false (fits old 0)
  pub number : new.number ≡ old.number
  pub used_calls : new.used_calls ≡ old.used_calls + room_taken false (fits old 0) 1
  pub used_bytes : new.used_bytes ≡ old.used_bytes
  pub meters : new.meters ≡ after_restart old.meters result
  pub room : (new.plan ≡ old.plan) × (new.calls ≡ old.calls) × (new.bytes ≡ old.bytes)
