-- The calls that a storage in memory is set to fail, and what it answers and leaves.
use Rattle.std.specs.Prelude.{ℕ, ◌+◌, ◌-◌, ◌^◌, min, List, [], ◌∷◌, ◌++◌, length, take, replicate, Bool, true, false, Option, Some, None, Result, Ok, Err, if◌then◌else◌, ◌==◌}
use Rattle.nv_model.specs.Bytes.{laid}
use Rattle.nv_model.specs.Meters.{Meters}
use Rattle.nv_model.specs.declared.{nv.NvFail.NvFail, nv.NvFail.TheVariants.Power, nv.NvFail.TheVariants.Fault, plan.Failure.Failure}

-- the first entry with the number of this call
abbrev pub planned : List Failure → ℕ → Option Failure
planned [] n = None
planned (f ∷ plan) n = if f.call == n then Some f else planned plan n

-- how a call goes by the plan
abbrev pub by_plan : Option Failure → Result (Unit {0}) NvFail
by_plan None = Ok tt
by_plan (Some f) = Err f.kind

-- a read: lost power first, then the plan
abbrev pub read_answer : Bool → Option Failure → Result (Unit {0}) NvFail
read_answer true f = Err Power
read_answer false f = by_plan f

-- a write or a sync: lost power first, then a record that has no room for it, then the plan
abbrev pub call_answer : Bool → Bool → Option Failure → Result (Unit {0}) NvFail
call_answer true fits f = Err Power
call_answer false false f = Err Fault
call_answer false true f = by_plan f

-- a restart: a record that has no room for it
abbrev pub restart_answer : Bool → Result (Unit {0}) NvFail
restart_answer true = Ok tt
restart_answer false = Err Fault

-- a tear of a write: its range holds the first `keep` of the new bytes, and `byte` at all others
abbrev pub torn : List ℕ → ℕ → List ℕ → ℕ → ℕ → List ℕ
torn old at bytes keep byte = laid old at (take keep bytes ++ replicate (length bytes - keep) byte)

-- a tear of a range that was written
abbrev pub filled : List ℕ → ℕ → ℕ → ℕ → ℕ → List ℕ
filled old at n keep byte = laid old (at + min keep n) (replicate (n - min keep n) byte)

-- of the range that was written last, if there is one
abbrev pub last_filled : Option (ℕ × ℕ) → List ℕ → ℕ → ℕ → List ℕ
last_filled None old keep byte = old
last_filled (Some r) old keep byte = filled old r.0 r.1 keep byte

-- what a write leaves
abbrev pub write_leaves : Bool → Bool → Option Failure → List ℕ → ℕ → List ℕ → List ℕ
write_leaves true fits f old at bytes = old
write_leaves false false f old at bytes = old
write_leaves false true None old at bytes = laid old at bytes
write_leaves false true (Some f) old at bytes = torn old at bytes f.keep f.byte

-- what a sync leaves, `last` being the range of the last write that succeeded since the last sync or restart that did
abbrev pub sync_leaves : Bool → Bool → Option Failure → Option (ℕ × ℕ) → List ℕ → List ℕ
sync_leaves true fits f last old = old
sync_leaves false false f last old = old
sync_leaves false true None last old = old
sync_leaves false true (Some f) last old = last_filled last old f.keep f.byte

-- that range after a call of write, of sync
abbrev pub last_after_write : Result (Unit {0}) NvFail → ℕ → ℕ → Option (ℕ × ℕ) → Option (ℕ × ℕ)
last_after_write (Ok _) at n last = Some (at, n)
last_after_write (Err _) at n last = last

abbrev pub last_after_sync : Result (Unit {0}) NvFail → Option (ℕ × ℕ) → Option (ℕ × ℕ)
last_after_sync (Ok _) last = None
last_after_sync (Err _) last = last

-- a count of 64 bits
abbrev pub next_number : ℕ → ℕ
next_number n = min (n + 1) (2 ^ 64 - 1)

-- what a call of write or sync takes of the record: nothing while power is lost, and where it doesn't fit
abbrev pub room_taken : Bool → Bool → ℕ → ℕ
room_taken true fits n = 0
room_taken false false n = 0
room_taken false true n = n

-- the counts and the power after a failure
abbrev pub after_failure : Meters → NvFail → Meters
after_failure m Power = record m { cuts = next_number m.cuts; lost = true }
after_failure m Fault = record m { faults = next_number m.faults }

-- after a call of read, write or sync: an answer while power is lost is no failure again
abbrev pub after_answer : Bool → Meters → Result (Unit {0}) NvFail → Meters
after_answer true m result = m
after_answer false m (Ok _) = m
after_answer false m (Err kind) = after_failure m kind

abbrev pub after_restart : Meters → Result (Unit {0}) NvFail → Meters
after_restart m (Ok _) = record m { lost = false }
after_restart m (Err kind) = after_failure m kind
