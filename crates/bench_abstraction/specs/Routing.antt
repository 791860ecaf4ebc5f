-- The events that the bench takes: whom each is for, and what it asks. The pool is the messages of the run, the first that was sent
-- first; the quote is what a piece costs by the rates of the run.
use Rattle.std.specs.Prelude.{ℕ, ◌&&◌, List, drop, length, slice_get, Option, Some, None, nat_le, if◌then◌else◌}
use Rattle.bench_base.specs.declared.{words.Node.Node, words.Node.TheVariants.Device, words.Node.TheVariants.Centre, words.Node.TheVariants.Host, words.Node.TheVariants.Verifier, events.Event.Event}
use Rattle.bench_base.specs.declared.events.Event.TheVariants as ev
use Rattle.bench_base.specs.Events.{About, NoMessage, Delivered, ScannedAs, needs}
use Rattle.node_acts.specs.declared.{asked.Asked.Asked, asked.Asked.TheVariants.On, asked.Asked.TheVariants.Off, asked.Asked.TheVariants.Cut, asked.Asked.TheVariants.Call}
use Rattle.node_acts.specs.Kinds.{OfCall}
use Rattle.psd_wire.specs.Grammar.{read}
use Rattle.host_jobs.specs.ActLaws.{IsPrice}
use Rattle.ledger_moves.specs.Moves.{addressee}
use Rattle.bench_abstraction.specs.Tariff.{Quote}
use Rattle.bench_abstraction.specs.declared.{calls.DeviceCall.DeviceCall, calls.CentreCall.CentreCall, calls.HostCall.HostCall, calls.VerifierCall.VerifierCall, routing.Routed.Routed}
use Rattle.bench_abstraction.specs.declared.calls.DeviceCall.TheVariants as device
use Rattle.bench_abstraction.specs.declared.calls.CentreCall.TheVariants as centre
use Rattle.bench_abstraction.specs.declared.calls.HostCall.TheVariants as host
use Rattle.bench_abstraction.specs.declared.calls.VerifierCall.TheVariants as verifier
use Rattle.bench_abstraction.specs.declared.routing.Routed.TheVariants as route
use Rattle.bench_abstraction.specs.declared.routing.OfDay.TheVariants as of_day

-- == whom an event is for, and what it asks ==

-- what a node is asked: the one of a device, of the centre, of the host, or of the verifier
abbrev pub of_node : Node → Asked DeviceCall → Asked CentreCall → Asked HostCall → Asked VerifierCall → Routed
of_node (Device d) device centre host verifier = route.OfDay (of_day.Device d device)
of_node Centre device centre host verifier = route.OfDay (of_day.Centre centre)
of_node Host device centre host verifier = route.OfDay (of_day.Host host)
of_node Verifier device centre host verifier = route.OfDay (of_day.Verifier verifier)

abbrev pub of_device : ℕ → DeviceCall → Routed
of_device d call = route.OfDay (of_day.Device d (Call call))

abbrev pub of_centre : CentreCall → Routed
of_centre call = route.OfDay (of_day.Centre (Call call))

abbrev pub of_host : HostCall → Routed
of_host call = route.OfDay (of_day.Host (Call call))

abbrev pub of_verifier : VerifierCall → Routed
of_verifier call = route.OfDay (of_day.Verifier (Call call))

-- bytes that are scanned under number n
abbrev pub to_scanner : ℕ → List ℕ → Routed
to_scanner n bytes = of_verifier (verifier.Scan (record { number = n; bytes = bytes }))

-- the device of this number; each message that was sent names one of 1 to 8, and what names another goes to the centre, which says
-- that it takes no such message
abbrev pub device_node : ℕ → Node
device_node d = if nat_le 1 d && nat_le d 8 then Device d else Centre

-- the node of a bench that takes what is for this node
abbrev pub stand_in : Node → Node
stand_in (Device d) = device_node d
stand_in Centre = Centre
stand_in Host = Host
stand_in Verifier = Verifier

-- the node that takes a message of these bytes
abbrev pub taker : List ℕ → Node
taker bytes = stand_in (addressee (read bytes))

-- bytes that are given to a node; the verifier is given none
abbrev pub given_to : Node → List ℕ → ℕ → Option Routed
given_to (Device d) bytes k = Some (of_device d (device.Take (record { bytes = bytes; message = k })))
given_to Centre bytes k = Some (of_centre (centre.Take (record { bytes = bytes; message = k })))
given_to Host bytes k = Some (of_host (host.Take (record { bytes = bytes })))
given_to Verifier bytes k = None

-- the message of this number, if it was sent, is given to the node that takes it
abbrev pub message_taken : ℕ → ℕ → Option (List ℕ) → Option Routed
message_taken k next None = Some (route.OfDay (of_day.NoMessage k))
message_taken k next (Some bytes) = given_to (taker bytes) bytes next

-- a message is scanned from its third byte on, where the mark of a Release begins
abbrev pub scanned : ℕ → ℕ → Option (List ℕ) → Routed
scanned n k None = route.OfDay (of_day.NoMessage k)
scanned n k (Some bytes) = to_scanner n (drop 2 bytes)

-- what an event asks; a message that it sends is the next one
abbrev pub routed : List (List ℕ) → Quote → Event → Option Routed
routed pool quote (ev.Day t) = Some (route.Day t)
routed pool quote ev.Rates = Some (route.OfDay of_day.Rates)
routed pool quote (ev.Make d key) = Some (of_device d (device.Make (record { key = key })))
routed pool quote (ev.On n) = Some (of_node n On On On On)
routed pool quote (ev.Off n) = Some (of_node n Off Off Off Off)
routed pool quote (ev.Cut n calls keep byte) = Some (of_node n (Cut calls keep byte) (Cut calls keep byte) (Cut calls keep byte) (Cut calls keep byte))
routed pool quote (ev.Debit d piece postage class) = Some (of_device d (device.Debit (record { piece = piece; postage = postage; class = class })))
routed pool quote (ev.Ask d kind who amount) = Some (of_device d (device.Ask (record { kind = kind; customer = who; amount = amount; message = length pool })))
routed pool quote (ev.Resend d) = Some (of_device d (device.Resend (record { message = length pool })))
routed pool quote (ev.Ack d) = Some (of_device d (device.Ack (record { message = length pool })))
routed pool quote (ev.Status d) = Some (of_device d device.Status)
routed pool quote (ev.Register d origin key) = Some (of_centre (centre.Register (record { device = d; origin = origin; key = key })))
routed pool quote (ev.OpenCustomer w) = Some (of_centre (centre.Open (record { customer = w })))
routed pool quote (ev.Deposit w receipt amount) = Some (of_centre (centre.Deposit (record { customer = w; receipt = receipt; amount = amount })))
routed pool quote (ev.Flag w suspended) = Some (of_centre (centre.Flag (record { customer = w; suspended = suspended })))
routed pool quote (ev.Balance w) = Some (of_centre (centre.Balance (record { customer = w })))
routed pool quote (ev.Deliver k) = message_taken k (length pool) (slice_get pool k)
routed pool quote (ev.Give n bytes) = given_to n bytes (length pool)
routed pool quote (ev.Order d piece class grams zone) = Some
    (of_host (host.Order (record { device = d; piece = piece; class = class; grams = grams; zone = zone; price = quote class grams zone })))
routed pool quote (ev.Send j) = Some (of_host (host.Send (record { job = j; message = length pool })))
routed pool quote (ev.Print j) = Some (of_host (host.Print (record { job = j })))
routed pool quote (ev.Close j) = Some (of_host (host.Close (record { job = j })))
routed pool quote (ev.Trust d key) = Some (of_verifier (verifier.Trust (record { device = d; key = key })))
routed pool quote (ev.ScanMsg scan k) = Some (scanned scan k (slice_get pool k))
routed pool quote (ev.ScanHex scan bytes) = Some (to_scanner scan bytes)
routed pool quote (ev.Reconcile d) = Some (route.OfDay (of_day.Reconcile d))
routed pool quote ev.End = Some route.End

-- == what is delivered, and what is scanned ==

abbrev pub as_given_by : ℕ → Option (List ℕ) → Event
as_given_by k None = ev.Deliver k
as_given_by k (Some bytes) = ev.Give (taker bytes) bytes

abbrev pub as_scanned_by : ℕ → ℕ → Option (List ℕ) → Event
as_scanned_by n k None = ev.ScanMsg n k
as_scanned_by n k (Some bytes) = ev.ScanHex n (drop 2 bytes)

-- an event by the message that it is about
abbrev pub as_given_by_message : List (List ℕ) → Event → About → Event
as_given_by_message pool e NoMessage = e
as_given_by_message pool e (Delivered k) = as_given_by k (slice_get pool k)
as_given_by_message pool e (ScannedAs scan k) = as_scanned_by scan k (slice_get pool k)

-- to deliver a message is to give its bytes to the node that it is for, and to scan one is to scan its bytes; of any other event
-- nothing is changed
abbrev pub as_given : List (List ℕ) → Event → Event
as_given pool e = as_given_by_message pool e (needs e).message

-- == prices ==

-- the price of an order, if it is one, is a postage that a piece may be franked with
abbrev pub IsPricedCall : HostCall → Type 0
IsPricedCall (host.Order c) = IsPrice c.price
IsPricedCall (host.Send c) = Unit {0}
IsPricedCall (host.Print c) = Unit {0}
IsPricedCall (host.Close c) = Unit {0}
IsPricedCall (host.Take c) = Unit {0}

abbrev pub IsPricedAsked : Asked HostCall → Type 0
IsPricedAsked = OfCall IsPricedCall

abbrev pub IsPriced : Routed → Type 0
IsPriced (route.Day t) = Unit {0}
IsPriced route.End = Unit {0}
IsPriced (route.OfDay of_day.Rates) = Unit {0}
IsPriced (route.OfDay (of_day.NoMessage k)) = Unit {0}
IsPriced (route.OfDay (of_day.Reconcile d)) = Unit {0}
IsPriced (route.OfDay (of_day.Device d asked)) = Unit {0}
IsPriced (route.OfDay (of_day.Centre asked)) = Unit {0}
IsPriced (route.OfDay (of_day.Host asked)) = IsPricedAsked asked
IsPriced (route.OfDay (of_day.Verifier asked)) = Unit {0}
