-- Marks that were seen, by the ledger and by what the auditor has of each device.
use Rattle.std.specs.Prelude.{◌≡◌, ℕ, ◌+◌, List, Option, Some, None, Result, Ok, Err, slice_get}
use Rattle.bench_base.specs.Ledger.{Ledger, counted}
use Rattle.psd_state.specs.State.{State, mark_in}
use Rattle.debit_laws.specs.Debits.{IsDebited}
use Rattle.trace_nodes.specs.declared.traced.Traced.{Traced}
use Rattle.trace_device.specs.declared.record.DeviceRecord.{DeviceRecord}
use Rattle.trace_seen.specs.declared.marks.SeenMarks.{SeenMarks}
use Rattle.trace_seen.specs.Marks.{Tells}
use Rattle.trace_bench.specs.declared.{judging.Heard.Heard, judging.Finding.Finding}

-- EACH MARK THAT WAS SEEN is recorded as debited if and only if a debit with this mark counts at the ledger
abbrev pub TellsDebits : SeenMarks → Ledger → Type 0
TellsDebits s H = Tells (λ mark. IsDebited mark (counted H)) s

-- the device that an event was for, if it was for one, keeps this mark
abbrev pub IsLastOf : Option ℕ → List (Traced DeviceRecord State) → List ℕ → Type 0
IsLastOf None devices mark = ⊥
IsLastOf (Some d) devices mark = (i : ℕ) × (s : Traced DeviceRecord State) × (d ≡ i + 1) × (slice_get devices i ≡ Some s) × (mark_in s.record.state ≡ Some mark)

-- each other device is as it was
abbrev pub OthersAlike : Option ℕ → List (Traced DeviceRecord State) → List (Traced DeviceRecord State) → Type 0
OthersAlike device old new = (i : ℕ) (s : Traced DeviceRecord State) → slice_get new i ≡ Some s → (device ≡ Some (i + 1) → ⊥) → slice_get old i ≡ Some s

-- so it is where an event was heard of
abbrev pub OthersRest : {T : Type 0} → Result (Heard T) Finding → List (Traced DeviceRecord State) → List (Traced DeviceRecord State) → Type 0
OthersRest (Ok heard) old new = OthersAlike heard.device old new
OthersRest (Err finding) old new = Unit {0}
