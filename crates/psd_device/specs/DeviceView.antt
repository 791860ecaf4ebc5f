-- What contracts see of a device and of its calls.
use Rattle.std.specs.Prelude.{◌≡◌, ℕ, ℤ, List, Option, Result, None, IfSome}
use Rattle.bench_base.specs.declared.{ledger.Commit.Commit, refusals.DevRefusal.DevRefusal, refusals.Fail.Fail, sizes.TheConstants.DEVICE_BYTES, words.Kind.Kind}
use Rattle.nv_model.specs.declared.nv.Nv.{Ghosts}
use Rattle.nv_ring.specs.declared.wear.Wear.{Wear}
use Rattle.node_acts.specs.Acts.{commit_in}
use Rattle.node_storage.specs.Performed.{Performed}
use Rattle.bench_base.specs.Rules.{todays_rules}
use Rattle.psd_wire.specs.declared.message.DebitMsg.{DebitMsg}
use Rattle.psd_state.specs.Acts.{DeviceAct, make_act, debit_act, ask_act, take_act}
use Rattle.psd_state.specs.declared.{acts.Franked.Franked, acts.Taken.Taken}
use Rattle.psd_state.specs.Seen.{Seen, counting}
use Rattle.psd_device.specs.Shown.{ShowsSeen, OnlyShown, IsStorable, fill_of}
use Rattle.psd_device.specs.Sound.{IsSound, IsCurrent}
use Rattle.psd_device.specs.NodeView.{storage_in, seen_in, number_in, wear_in, SameWear}
use Rattle.psd_device.specs.declared.device.Device.{Device}

-- its storage
abbrev pub storage_of : {N : Type 0} {g : Ghosts N} → Device N g → N
storage_of d = storage_in d.running.node

-- its commits and its record
abbrev pub seen_of : {N : Type 0} {g : Ghosts N} → Device N g → Seen
seen_of d = seen_in d.running.node

abbrev pub number_of : {N : Type 0} {g : Ghosts N} → Device N g → ℕ
number_of d = number_in d.running.node

-- the commit of it that failed
abbrev pub torn_of : {N : Type 0} {g : Ghosts N} → Device N g → Option Commit
torn_of d = d.running.torn

-- from which number of commits and slot on wear is counted, and how often each slot was filled since
abbrev pub wear_of : {N : Type 0} {g : Ghosts N} → Device N g → Wear
wear_of d = wear_in d.running.node

-- == a boot ==

-- what starts as device d: it shows what its storage shows
pub record Starts {N : Type 0} {g : Ghosts N} (device : ℕ) (d : Device N g) : Type 0 where
  pub works : torn_of d ≡ None
  pub number : number_of d ≡ device
  pub sound : IsSound device (seen_of d)
  pub size : g.size (storage_of d) ≡ DEVICE_BYTES
  pub shows : g.tells → OnlyShown (seen_of d) (g.times (storage_of d)) (g.content (storage_of d))
  pub place : g.tells → IsCurrent (wear_of d).start (g.content (storage_of d))

-- == the acts ==

abbrev pub DeviceResult : Type 0 → Type 0
DeviceResult A = Result A (Fail DevRefusal)

abbrev pub make_of : {N : Type 0} {g : Ghosts N} → Device N g → List ℕ → DeviceAct (Unit {0})
make_of d key = make_act (number_of d) key (seen_of d).state

abbrev pub debit_of : {N : Type 0} {g : Ghosts N} → Device N g → DebitMsg → ℤ → DeviceAct Franked
debit_of d command today = debit_act todays_rules (number_of d) command today (seen_of d).state

abbrev pub ask_of : {N : Type 0} {g : Ghosts N} → Device N g → Kind → ℕ → ℕ → ℤ → DeviceAct (List ℕ)
ask_of d kind customer amount today = ask_act todays_rules (number_of d) kind customer amount today (seen_of d).state

abbrev pub take_of : {N : Type 0} {g : Ghosts N} → Device N g → List ℕ → ℤ → DeviceAct Taken
take_of d bytes today = take_act todays_rules (number_of d) bytes today (seen_of d).state

-- == a call ==

-- What a call of this act did, answered and left. The record is one that can be kept, and the record after a commit is one
-- too.
pub record Performs {N A : Type 0} {g : Ghosts N} (act : DeviceAct A) (old new : Device N g) (result : DeviceResult A) : Type 0 where
  pub performed : Performed g counting fill_of ShowsSeen (λ r. storage_in r.node) (λ r. seen_in r.node) (λ r. r.torn) act old.running new.running result
  pub next : torn_of old ≡ None → IfSome (commit_in counting (seen_of old) act) (λ x. IfSome x.1.state IsStorable)
  pub number : number_of new ≡ number_of old
  pub kept : IfSome (seen_of new).state IsStorable
  pub size : g.size (storage_of new) ≡ DEVICE_BYTES
  pub wear : SameWear (wear_of old) (wear_of new)
