-- What an auditor reports of each node: what is answered to `status`, `balance` and `reconcile`, what the centre keeps, how many commits count, and
-- where one is open.
use Rattle.std.specs.Prelude.{◌≡◌, ℕ, ℤ, ◌+◌, [], Bool, true, Option, Some, None, is_some, option_map, slice_get}
use Rattle.bench_base.specs.declared.{words.Node.Node, words.Node.TheVariants.Device, words.Node.TheVariants.Centre, words.Node.TheVariants.Host, words.Node.TheVariants.Verifier, events.DevView.DevView, events.Reply.Reply, refusals.DevRefusal.TheVariants.Blank, refusals.CentreRefusal.TheVariants.UnknownCustomer, events.Event.Event}
use Rattle.bench_base.specs.declared.events.Event.TheVariants as ev
use Rattle.bench_base.specs.declared.events.Reply.TheVariants as r
use Rattle.bench_base.specs.Rules.{todays_rules, editions}
use Rattle.bench_base.specs.Ledger.{Ledger, counted, day_in, is_on}
use Rattle.node_acts.specs.declared.{act.Act.Act, act.Act.TheVariants.Refuse, act.Act.TheVariants.Tell, act.Act.TheVariants.Commits, said.Said.Said}
use Rattle.psd_state.specs.State.{State}
use Rattle.psd_state.specs.Answers.{status_of}
use Rattle.psd_state.specs.Seen as device
use Rattle.centre_ledger.specs.declared.{rows.DeviceRow.DeviceRow, rows.CustomerRow.CustomerRow}
use Rattle.centre_ledger.specs.Acts.{standing_act}
use Rattle.centre_ledger.specs.Books.{device_at, customer_at, left_in}
use Rattle.centre_ledger.specs.Seen as centre
use Rattle.host_jobs.specs.Seen as host
use Rattle.verifier.specs.Seen as verifier
use Rattle.ledger_moves.specs.Tariffs.{Tariff}
use Rattle.ledger_moves.specs.Moves.{answer}
use Rattle.ledger_moves.specs.Histories.{History}
use Rattle.bench_abstraction.specs.declared.{calls.DeviceCall.TheVariants.Status, calls.CentreCall.TheVariants.Balance}
use Rattle.bench_abstraction.specs.Devices.{device_act}
use Rattle.bench_abstraction.specs.Centre.{centre_act}
use Rattle.bench_abstraction.specs.Comparing.{compared}
use Rattle.bench_abstraction.specs.Kinds.{bench_kinds}
use Rattle.trace_nodes.specs.declared.traced.Traced.{Traced}
use Rattle.trace_device.specs.declared.record.DeviceRecord.{DeviceRecord}
use Rattle.trace_device.specs.Records.{seen_of}
use Rattle.trace_centre.specs.Cells as centre_cells
use Rattle.trace_host.specs.Cells as host_cells
use Rattle.trace_verifier.specs.Cells as verifier_cells
use Rattle.trace_bench.specs.Seeing.{Audit, Sees}

-- == the words of the nodes ==

-- the reply of an act that is done; None if it refuses
abbrev pub done_by : {X : Type 0} → Act X Reply Said → Option Reply
done_by (Refuse x) = None
done_by (Tell said) = Some said.reply
done_by (Commits c x said) = Some said.reply

-- what device d answers to `status` on a day if it is on, by its record; None if it was not made
abbrev pub status_by : ℕ → ℤ → device.Seen → Option Reply
status_by d today s = done_by (device_act d today Status s.state)

-- what the centre answers to `balance` of customer w if it is on, by its rows; None if w is not open
abbrev pub balance_by : ℕ → centre.Seen → Option Reply
balance_by w s = done_by (centre_act (Balance (record { customer = w })) (centre.books_in s))

-- what the device shows on a day; there is nothing where it was not made
abbrev pub shown_by : ℤ → device.Seen → Option DevView
shown_by today s = option_map (λ x. status_of x today) s.state

-- what customer w has left, and 0 where it is not open
abbrev pub left_by : ℕ → centre.Seen → ℕ
left_by w c = left_in (centre.books_in c) w

-- what is answered to `reconcile` of device d where it and the centre are on, by the device's record and the centre's rows
abbrev pub reconcile_by : ℕ → device.Seen → centre.Seen → Reply
reconcile_by d s c = compared d s.state (standing_act d (centre.books_in c))

-- the row that the centre keeps of device d, and of customer w
abbrev pub device_row_by : ℕ → centre.Seen → Option DeviceRow
device_row_by d c = device_at (centre.books_in c) d

abbrev pub customer_row_by : ℕ → centre.Seen → Option CustomerRow
customer_row_by w c = customer_at (centre.books_in c) w

-- == by what the auditor has ==

-- P of the traced node of device d, which is the one in its place
pub record OfDevice (d : ℕ) (a : Audit) (P : Traced DeviceRecord State → Type 0) : Type 0 where
  pub place : ℕ
  pub is_device : d ≡ place + 1
  pub traced : Traced DeviceRecord State
  pub at : slice_get a.devices place ≡ Some traced
  pub holds : P traced

-- so many commits of the node count
abbrev pub Counts : Node → Audit → ℕ → Type 0
Counts (Device d) a n = OfDevice d a (λ s. n ≡ device.counting.count (seen_of s.record))
Counts Centre a n = n ≡ centre.counting.count (centre_cells.cells_of a.centre.record)
Counts Host a n = n ≡ host.counting.count (host_cells.cells_of a.host.record)
Counts Verifier a n = n ≡ verifier.counting.count (verifier_cells.cells_of a.verifier.record)

-- whether a change of the node is open
abbrev pub Opens : Node → Audit → Bool → Type 0
Opens (Device d) a b = OfDevice d a (λ s. b ≡ is_some s.open)
Opens Centre a b = b ≡ is_some a.centre.open
Opens Host a b = b ≡ is_some a.host.open
Opens Verifier a b = b ≡ is_some a.verifier.open

-- == by the ledger ==

-- what is seen of device d, of the centre and of the host after the commits that count
abbrev pub device_in : ℕ → Ledger → device.Seen
device_in d H = bench_kinds.devices.seen d (counted H)

abbrev pub centre_in : Ledger → centre.Seen
centre_in H = bench_kinds.centre.seen tt (counted H)

abbrev pub host_in : Ledger → host.Seen
host_in H = bench_kinds.host.seen tt (counted H)

-- the number that an `up` of the node shows where its open commit does not count
abbrev pub count_in : Node → Ledger → ℕ
count_in (Device d) H = device.counting.count (device_in d H)
count_in Centre H = centre.counting.count (centre_in H)
count_in Host H = host.counting.count (host_in H)
count_in Verifier H = verifier.counting.count (bench_kinds.verifier.seen tt (counted H))

-- == what is answered ==

-- the reply where it is done, and otherwise this refusal
abbrev pub done_or : Reply → Option Reply → Reply
done_or refusal None = refusal
done_or refusal (Some reply) = reply

-- at each history that the auditor has, if this is its day and the node is on, the event is answered so
abbrev pub IsAnswered : Audit → ℤ → Node → Event → Reply → Type 0
IsAnswered a today m e reply = (τ : Tariff) (H : Ledger) → History τ editions H → Sees a H
    → day_in H ≡ Some today → is_on m H ≡ true → answer τ todays_rules H e [] ≡ reply

-- `status` of device d is answered so, and a device that was not made refuses
abbrev pub SaysStatus : Audit → ℕ → ℤ → Option Reply → Type 0
SaysStatus a d today told = IsAnswered a today (Device d) (ev.Status d) (done_or (r.DevRefused d Blank) told)

-- `balance` of customer w is answered so on each day, and the centre refuses if the customer is not open
abbrev pub SaysBalance : Audit → ℕ → Option Reply → Type 0
SaysBalance a w told = (today : ℤ) → IsAnswered a today Centre (ev.Balance w) (done_or (r.CentreRefused (UnknownCustomer w)) told)
