-- How a call of a node ended for its storage.
use Rattle.std.specs.Prelude.{Result, Ok, Err, Option, Some, None, Bool, true, false}
use Rattle.bench_base.specs.declared.{ledger.Commit.Commit, refusals.BootFail.BootFail, refusals.Fail.Fail, refusals.Fail.TheVariants.Refused, refusals.Fail.TheVariants.Store, refusals.StoreFail.StoreFail}
use Rattle.bench_base.specs.declared.refusals.BootFail.TheVariants as boot
use Rattle.bench_base.specs.declared.refusals.StoreFail.TheVariants as store
use Rattle.nv_store.specs.Turns.{End, Kept, Made, Cut, Faulted}
use Rattle.node_acts.specs.declared.{act.Outcome.Outcome, act.Started.Started}
use Rattle.node_acts.specs.declared.act.Outcome.TheVariants as o
use Rattle.node_acts.specs.declared.act.Started.TheVariants as start

-- a boot; none writes
abbrev pub end_of_boot : Result (Unit {0}) BootFail → End
end_of_boot (Ok done) = Kept
end_of_boot (Err boot.Power) = Cut
end_of_boot (Err boot.Fault) = Faulted
end_of_boot (Err boot.Damaged) = Kept

-- a start; none writes
abbrev pub end_of_start : Started → End
end_of_start start.Already = Kept
end_of_start (start.Up k) = Kept
end_of_start start.Power = Cut
end_of_start start.Fault = Faulted
end_of_start start.Damaged = Kept

abbrev pub end_of_commit : Result (Unit {0}) StoreFail → End
end_of_commit (Ok done) = Made
end_of_commit (Err store.Power) = Cut
end_of_commit (Err store.Fault) = Faulted
end_of_commit (Err store.Worn) = Kept
end_of_commit (Err store.Failed) = Kept

-- whether a node that was on is still on after its commit
abbrev pub leaves_running : Result (Unit {0}) StoreFail → Bool
leaves_running (Ok done) = true
leaves_running (Err store.Power) = false
leaves_running (Err store.Fault) = false
leaves_running (Err store.Worn) = true
leaves_running (Err store.Failed) = true

-- whether a commit began to write
abbrev pub begins : Result (Unit {0}) StoreFail → Bool
begins (Ok done) = true
begins (Err store.Power) = true
begins (Err store.Fault) = true
begins (Err store.Worn) = false
begins (Err store.Failed) = false

-- whether a call that commits, and answers a result, began to write
abbrev pub begins_to_write : {F A : Type 0} → Result A (Fail F) → Bool
begins_to_write (Ok a) = true
begins_to_write (Err (Refused x)) = false
begins_to_write (Err (Store store.Power)) = true
begins_to_write (Err (Store store.Fault)) = true
begins_to_write (Err (Store store.Worn)) = false
begins_to_write (Err (Store store.Failed)) = false

-- whether a call came to what its act answers
abbrev pub is_done : {F A : Type 0} → Outcome F A → Bool
is_done o.Off = false
is_done (o.Refused x) = false
is_done (o.Done a) = true
is_done o.Worn = false
is_done (o.Power c) = false
is_done (o.Fault c) = false

-- a call that makes this commit, if it makes one
abbrev pub end_of_call : {S F A : Type 0} → Outcome F A → Option (Commit × S) → End
end_of_call o.Off made = Kept
end_of_call (o.Refused x) made = Kept
end_of_call (o.Done a) (Some x) = Made
end_of_call (o.Done a) None = Kept
end_of_call o.Worn made = Kept
end_of_call (o.Power c) made = Cut
end_of_call (o.Fault c) made = Faulted

-- a call, whatever it commits: it was cut, it failed, or it goes on
abbrev pub end_of : {F A : Type 0} → Outcome F A → End
end_of o.Off = Kept
end_of (o.Refused x) = Kept
end_of (o.Done a) = Kept
end_of o.Worn = Kept
end_of (o.Power c) = Cut
end_of (o.Fault c) = Faulted

-- a call that answers a result and makes this commit, if it makes one
abbrev pub end_of_result : {S F A : Type 0} → Result A (Fail F) → Option (Commit × S) → End
end_of_result (Ok a) (Some x) = Made
end_of_result (Ok a) None = Kept
end_of_result (Err (Refused x)) made = Kept
end_of_result (Err (Store store.Power)) made = Cut
end_of_result (Err (Store store.Fault)) made = Faulted
end_of_result (Err (Store store.Worn)) made = Kept
end_of_result (Err (Store store.Failed)) made = Kept
