-- What an event of one node does to the bench, and which events ask a node for what.
use Rattle.std.specs.Prelude.{◌≡◌, ℕ, ℤ, ◌+◌, List, [], Bool, Some, slice_get, slice_set}
use Rattle.bench_base.specs.declared.{words.Node.Node, words.Node.TheVariants.Device, words.Node.TheVariants.Centre, words.Node.TheVariants.Host, words.Node.TheVariants.Verifier, events.Event.Event}
use Rattle.bench_base.specs.declared.events.Event.TheVariants as ev
use Rattle.bench_base.specs.declared.events.Reply.TheVariants as r
use Rattle.bench_base.specs.Ranges.{IsDevice, IsCustomer, IsWord, IsCount, IsKey}
use Rattle.nv_model.specs.declared.nv.Nv as nv
use Rattle.nv_model.specs.declared.fuse.Fuse as fuse
use Rattle.node_acts.specs.declared.{act.Started.Started, asked.Asked.Asked, asked.Asked.TheVariants.On, asked.Asked.TheVariants.Off, asked.Asked.TheVariants.Cut, asked.Asked.TheVariants.Call}
use Rattle.node_acts.specs.Kinds.{Kind}
use Rattle.node_storage.specs.declared.node.Node.{Ghosts}
use Rattle.node_storage.specs.Starts.{StartDoes, StopDoes, ArmDoes}
use Rattle.node_turns.specs.declared.turn.Turn.{Turn}
use Rattle.node_turns.specs.NodeTurns.{NodeTurn}
use Rattle.node_turns.specs.Printing.{Printer, NodePrints}
use Rattle.node_turns.specs.Turns.{turn_of, start_turn, stop_turn}
use Rattle.bench_abstraction.specs.declared.{calls.DeviceCall.DeviceCall, calls.DeviceCall.TheVariants.Make, calls.DeviceCall.TheVariants.Debit, calls.DeviceCall.TheVariants.Ask, calls.DeviceCall.TheVariants.Resend, calls.DeviceCall.TheVariants.Ack, calls.DeviceCall.TheVariants.Status, calls.DeviceCall.TheVariants.Take, calls.CentreCall.CentreCall, calls.HostCall.HostCall, calls.VerifierCall.VerifierCall}
use Rattle.bench_abstraction.specs.declared.calls.CentreCall.TheVariants as call
use Rattle.host_jobs.specs.ActLaws.{IsPrice}
use Rattle.bench_abstraction.specs.declared.calls.HostCall.TheVariants as host
use Rattle.bench_abstraction.specs.declared.calls.VerifierCall.TheVariants as verifier

-- == events ==

-- the event that asks device d this; what is delivered to it is given
abbrev pub device_call_event : ℕ → DeviceCall → Event
device_call_event d (Make c) = ev.Make d c.key
device_call_event d (Debit c) = ev.Debit d c.piece c.postage c.class
device_call_event d (Ask c) = ev.Ask d c.kind c.customer c.amount
device_call_event d (Resend c) = ev.Resend d
device_call_event d (Ack c) = ev.Ack d
device_call_event d Status = ev.Status d
device_call_event d (Take c) = ev.Give (Device d) c.bytes

-- the event that asks the centre this
abbrev pub centre_call_event : CentreCall → Event
centre_call_event (call.Register c) = ev.Register c.device c.origin c.key
centre_call_event (call.Open c) = ev.OpenCustomer c.customer
centre_call_event (call.Deposit c) = ev.Deposit c.customer c.receipt c.amount
centre_call_event (call.Flag c) = ev.Flag c.customer c.suspended
centre_call_event (call.Balance c) = ev.Balance c.customer
centre_call_event (call.Take c) = ev.Give Centre c.bytes

-- the event that asks the host this
abbrev pub host_call_event : HostCall → Event
host_call_event (host.Order c) = ev.Order c.device c.piece c.class c.grams c.zone
host_call_event (host.Send c) = ev.Send c.job
host_call_event (host.Print c) = ev.Print c.job
host_call_event (host.Close c) = ev.Close c.job
host_call_event (host.Take c) = ev.Give Host c.bytes

-- the event that asks the verifier this; a message that is scanned is its bytes
abbrev pub verifier_call_event : VerifierCall → Event
verifier_call_event (verifier.Trust c) = ev.Trust c.device c.key
verifier_call_event (verifier.Scan c) = ev.ScanHex c.number c.bytes

abbrev pub asked_event : {C : Type 0} → Node → (C → Event) → Asked C → Event
asked_event m of_call On = ev.On m
asked_event m of_call Off = ev.Off m
asked_event m of_call (Cut calls keep byte) = ev.Cut m calls keep byte
asked_event m of_call (Call c) = of_call c

abbrev pub device_event : ℕ → Asked DeviceCall → Event
device_event d asked = asked_event (Device d) (device_call_event d) asked

abbrev pub centre_event : Asked CentreCall → Event
centre_event asked = asked_event Centre centre_call_event asked

abbrev pub host_event : Asked HostCall → Event
host_event asked = asked_event Host host_call_event asked

abbrev pub verifier_event : Asked VerifierCall → Event
verifier_event asked = asked_event Verifier verifier_call_event asked

-- What node m, which is d of its kind, came to if it was asked this. A switch, or a fuse that was armed, is reported alike
-- for each kind, and the printer took nothing. If it was a call, P holds.
abbrev pub Comes : {K S N C R X : Type 0} (n : Ghosts K S N C R) → nv.Ghosts S → fuse.Ghosts S → Node → N → (Turn → Type 0) → K → K → Printer
    → Printer → (X → Type 0) → Asked X → Type 0
Comes n g f m d IsOf s t p q P On = (x : Started) × StartDoes n g d s t x × IsOf (start_turn m x) × (q ≡ p)
Comes n g f m d IsOf s t p q P Off = (was : Bool) × StopDoes n g s t was × IsOf (stop_turn m was) × (q ≡ p)
Comes n g f m d IsOf s t p q P (Cut calls keep byte) = ArmDoes n g f calls keep byte s t × IsOf (turn_of (r.CutSet m) []) × (q ≡ p)
Comes n g f m d IsOf s t p q P (Call c) = P c

-- what the event of node m, which is d of its kind, came to on that day, as it is reported, and what the printer took in it
abbrev pub Told : {K S N C R X : Type 0} (n : Ghosts K S N C R) → nv.Ghosts S → fuse.Ghosts S → Kind N n.Seen X → Node → N → ℤ → Event → Asked X
    → (Turn → Type 0) → K → K → Printer → Printer → Type 0
Told n g f kind m d today e asked IsOf s t p q = (turn : Turn) × IsOf turn × NodeTurn n g f kind m d today e asked s t turn
    × NodePrints n g kind m d today asked s turn.reply p q

-- what the event of a device came to on that day, what the printer took in it, and where the device stands
pub record DeviceTurn {K S C R : Type 0} (n : Ghosts K S ℕ C R) (g : nv.Ghosts S) (f : fuse.Ghosts S) (kind : Kind ℕ n.Seen DeviceCall)
    (d : ℕ) (today : ℤ) (asked : Asked DeviceCall) (old new : List K) (p q : Printer) (turn : Turn) : Type 0 where
  pub place : ℕ
  pub is_device : d ≡ place + 1
  pub before : K
  pub now : K
  pub was : slice_get old place ≡ Some before
  pub set : new ≡ slice_set old place now
  pub did : NodeTurn n g f kind (Device d) d today (device_event d asked) asked before now turn
  pub prints : NodePrints n g kind (Device d) d today asked before turn.reply p q

-- == ranges ==

-- the ranges of the numbers in a call of the centre, as an event contains them
abbrev pub IsRangedCall : CentreCall → Type 0
IsRangedCall (call.Register c) = IsDevice c.device × IsWord c.origin
IsRangedCall (call.Open c) = IsCustomer c.customer
IsRangedCall (call.Deposit c) = IsCustomer c.customer
IsRangedCall (call.Flag c) = IsCustomer c.customer
IsRangedCall (call.Balance c) = IsCustomer c.customer
IsRangedCall (call.Take c) = Unit {0}

-- the numbers of a call of the host: a price is a postage that a piece may be franked with
abbrev pub IsRangedJob : HostCall → Type 0
IsRangedJob (host.Order c) = IsDevice c.device × IsPrice c.price
IsRangedJob (host.Send c) = Unit {0}
IsRangedJob (host.Print c) = Unit {0}
IsRangedJob (host.Close c) = Unit {0}
IsRangedJob (host.Take c) = Unit {0}

-- the numbers of a call of the verifier
abbrev pub IsRangedScan : VerifierCall → Type 0
IsRangedScan (verifier.Trust c) = IsDevice c.device × IsKey c.key
IsRangedScan (verifier.Scan c) = IsCount c.number
