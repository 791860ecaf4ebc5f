-- What an event needs, what it may do, and the ranges of its numbers: two tables with a row for every event.
use Rattle.std.specs.Prelude.{◌≡◌, ℕ, ℤ, ◌≤◌, ◌<◌, ◌^◌, Bool, true, false, Option, Some, None}
use Rattle.bench_base.specs.declared.{words.Node.Node, words.Node.TheVariants.Device, words.Node.TheVariants.Centre, words.Node.TheVariants.Host, words.Node.TheVariants.Verifier, events.Event.Event, questions.Brought.Brought, questions.Brought.TheVariants.Nothing, questions.Brought.TheVariants.Handed, questions.Brought.TheVariants.Scanned}
use Rattle.bench_base.specs.declared.events.Event.TheVariants as ev
use Rattle.bench_base.specs.Ranges.{IsDevice, IsCustomer, IsDay, IsWord, IsKey, IsNode, IsAsk, IsGiven, TakesBytes}

-- the message of the run that an event is about
pub data About : Type 0 where
  NoMessage : About
  -- the message of this number is delivered
  Delivered : ℕ → About
  -- under a number, the message of this number is scanned
  ScannedAs : ℕ → ℕ → About

-- what an event needs, and what it may do
pub record Needs : Type 0 where
  -- the node that it is for; nothing if it is the bench's own, or if a message names the node
  pub node : Option Node
  -- whether it needs a day
  pub day : Bool
  -- whether its node has to be on
  pub on : Bool
  -- whether it may commit
  pub commits : Bool
  -- how many calls of an armed fuse it uses at most
  pub calls : ℕ
  -- the day that it sets
  pub sets : Option ℤ
  -- whether it takes a text of the rates
  pub rates : Bool
  -- what it takes from outside
  pub brings : Brought
  -- the message that it is about
  pub message : About

-- the bench's own: it needs nothing, it sets the day, or it reads the rates to come
abbrev pub apart : Needs
apart = record { node = None; day = false; on = false; commits = false; calls = 0; sets = None; rates = false; brings = Nothing; message = NoMessage }

-- it sets the day
abbrev pub dates : ℤ → Needs
dates t = record apart { sets = Some t }

-- it reads the rates
abbrev pub reads_rates : Needs
reads_rates = record apart { day = true; rates = true }

-- of a node, on or off: it boots the node, or leaves its storage alone
abbrev pub boots : Node → Needs
boots n = record apart { node = Some n; day = true; calls = 1 }

-- it arms the fuse of the node
abbrev pub arms : Node → Needs
arms n = record apart { node = Some n; day = true }

-- of a node that is on: it commits nothing, or it may commit
abbrev pub asks : Node → Needs
asks n = record apart { node = Some n; day = true; on = true }

-- it changes the record of the node, which has to be on
abbrev pub changes : Node → Needs
changes n = record apart { node = Some n; day = true; on = true; commits = true; calls = 6 }

-- of a node that takes these bytes
abbrev pub takes : Node → Brought → Needs
takes n bytes = record (changes n) { brings = bytes }

-- of the node that this message is for
abbrev pub delivers : ℕ → Needs
delivers k = record apart { day = true; on = true; commits = true; calls = 6; message = Delivered k }

-- the row of each event
abbrev pub needs : Event → Needs
needs (ev.Day t) = dates t
needs ev.Rates = reads_rates
needs (ev.Make d key) = changes (Device d)
needs (ev.On n) = boots n
needs (ev.Off n) = asks n
needs (ev.Cut n calls keep byte) = arms n
needs (ev.Debit d piece postage class) = changes (Device d)
needs (ev.Ask d kind who amount) = changes (Device d)
needs (ev.Resend d) = asks (Device d)
needs (ev.Ack d) = asks (Device d)
needs (ev.Status d) = asks (Device d)
needs (ev.Register d origin key) = changes Centre
needs (ev.OpenCustomer w) = changes Centre
needs (ev.Deposit w receipt amount) = changes Centre
needs (ev.Flag w suspended) = changes Centre
needs (ev.Balance w) = asks Centre
needs (ev.Deliver k) = delivers k
needs (ev.Give n bytes) = takes n (Handed n bytes)
needs (ev.Order d piece class grams zone) = changes Host
needs (ev.Send j) = asks Host
needs (ev.Print j) = changes Host
needs (ev.Close j) = changes Host
needs (ev.Trust d key) = changes Verifier
needs (ev.ScanMsg scan k) = record (changes Verifier) { message = ScannedAs scan k }
needs (ev.ScanHex scan bytes) = takes Verifier (Scanned bytes)
needs (ev.Reconcile d) = asks (Device d)
needs ev.End = apart

abbrev pub node_for : Event → Option Node
node_for e = (needs e).node

-- whether the event needs a day
abbrev pub needs_day : Event → Bool
needs_day e = (needs e).day

abbrev pub needs_on : Event → Bool
needs_on e = (needs e).on

abbrev pub may_commit : Event → Bool
may_commit e = (needs e).commits

abbrev pub calls_of : Event → ℕ
calls_of e = (needs e).calls

abbrev pub takes_rates : Event → Bool
takes_rates e = (needs e).rates

-- what the event takes from outside
abbrev pub brought_by : Event → Brought
brought_by e = (needs e).brings

abbrev pub set_or : Option ℤ → Option ℤ → Option ℤ
set_or None today = today
set_or (Some t) today = Some t

-- the day after an event, by the one before it
abbrev pub day_after : Event → Option ℤ → Option ℤ
day_after e today = set_or (needs e).sets today

-- an event for this node, or for the node that a message names, may be one of node n
abbrev pub IsAt : Option Node → Node → Type 0
IsAt None n = Unit {0}
IsAt (Some m) n = m ≡ n

-- == the ranges of its numbers ==

-- an event is whole where its numbers lie in the ranges of the script
abbrev pub IsWholeEvent : Event → Type 0
IsWholeEvent (ev.Day t) = IsDay t
IsWholeEvent ev.Rates = Unit {0}
IsWholeEvent (ev.Make d key) = IsDevice d × IsKey key
IsWholeEvent (ev.On n) = IsNode n
IsWholeEvent (ev.Off n) = IsNode n
IsWholeEvent (ev.Cut n calls keep byte) = IsNode n × IsWord calls × IsWord keep × (byte < 2 ^ 8)
IsWholeEvent (ev.Debit d piece postage class) = IsDevice d × IsWord piece × IsWord postage × (class < 2 ^ 16)
IsWholeEvent (ev.Ask d kind customer amount) = IsDevice d × IsAsk kind customer amount
IsWholeEvent (ev.Resend d) = IsDevice d
IsWholeEvent (ev.Ack d) = IsDevice d
IsWholeEvent (ev.Status d) = IsDevice d
IsWholeEvent (ev.Register d origin key) = IsDevice d × IsWord origin × IsKey key
IsWholeEvent (ev.OpenCustomer c) = IsCustomer c
IsWholeEvent (ev.Deposit c receipt amount) = IsCustomer c × IsWord receipt × IsWord amount
IsWholeEvent (ev.Flag c suspended) = IsCustomer c
IsWholeEvent (ev.Balance c) = IsCustomer c
IsWholeEvent (ev.Deliver k) = IsWord k
IsWholeEvent (ev.Give n bytes) = TakesBytes n × IsGiven bytes
IsWholeEvent (ev.Order d piece class grams zone) = IsDevice d × IsWord piece × (class < 2 ^ 16) × IsWord grams × IsWord zone
IsWholeEvent (ev.Send j) = IsWord j
IsWholeEvent (ev.Print j) = IsWord j
IsWholeEvent (ev.Close j) = IsWord j
IsWholeEvent (ev.Trust d key) = IsDevice d × IsKey key
IsWholeEvent (ev.ScanMsg scan k) = (1 ≤ scan) × IsWord scan × IsWord k
IsWholeEvent (ev.ScanHex scan bytes) = (1 ≤ scan) × IsWord scan × IsGiven bytes
IsWholeEvent (ev.Reconcile d) = IsDevice d
IsWholeEvent ev.End = Unit {0}
