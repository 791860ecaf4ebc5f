-- What each reply states, what it reports besides, and which events may get it: three tables with a row for every reply.
use Rattle.std.specs.Prelude.{◌≡◌, ◌≢◌, ◌⊎◌, ◌||◌, ℕ, Bool, true, false, List, Option, Some, None, is_some}
use Rattle.bench_base.specs.declared.{words.Kind.Kind, words.Node.Node, words.Node.TheVariants.Device, words.Node.TheVariants.Centre, words.Node.TheVariants.Host, words.Node.TheVariants.Verifier, events.Event.Event, events.Reply.Reply, questions.Refusal.TheVariants.Device as OfDevice, questions.Refusal.TheVariants.Centre as OfCentre, questions.Refusal.TheVariants.Host as OfHost, questions.Refusal.TheVariants.Verifier as OfVerifier, questions.Report.Report}
use Rattle.bench_base.specs.declared.events.Event.TheVariants as ev
use Rattle.bench_base.specs.declared.events.Reply.TheVariants as r
use Rattle.bench_base.specs.declared.questions.Report.TheVariants as report
use Rattle.bench_base.specs.Nodes.{same_node}
use Rattle.bench_base.specs.Events.{node_for, needs_day, needs_on, may_commit, IsAt}

-- what a reply reports
pub data ReplyClass : Type 0 where
  -- what was asked for was done
  Did : ReplyClass
  -- it was refused, and nothing was changed
  Refused : ReplyClass
  -- the fuse of the node's storage was armed
  Armed : Node → ReplyClass
  -- the node's storage was read, and the node came on with so many commits
  CameOn : Node → ℕ → ReplyClass
  WentOff : Node → ReplyClass
  -- power was cut, or the storage failed; the node is off
  LostPower : Node → ReplyClass
  Faulted : Node → ReplyClass
  -- the node's storage was read, and is not that of the node, which is off
  WasDamaged : Node → ReplyClass
  -- the printer failed after the commit of this job
  PrinterFailed : ℕ → ReplyClass
  -- the rates could not be read
  RatesFailed : ReplyClass

-- what each reply reports
abbrev pub class_of : Reply → ReplyClass
class_of (r.Day t) = Did
class_of (r.Rates classes zones) = Did
class_of r.RatesFault = RatesFailed
class_of r.RatesLength = Refused
class_of r.RatesToml = Refused
class_of r.RatesForm = Refused
class_of (r.Made d) = Did
class_of (r.Up n k) = CameOn n k
class_of (r.Down n) = WentOff n
class_of (r.CutSet n) = Armed n
class_of (r.Marked d piece again mark) = Did
class_of (r.SentRequest d number message) = Did
class_of (r.SentDone d number message) = Did
class_of (r.Status d shown) = Did
class_of (r.Registered d) = Did
class_of (r.Opened w) = Did
class_of (r.Deposited w receipt again total) = Did
class_of (r.Flagged w suspended) = Did
class_of (r.Balance w left) = Did
class_of (r.Ruled d number verdict again message) = Did
class_of (r.Settled d number again) = Did
class_of (r.Applied d number verdict) = Did
class_of (r.Released d piece again message) = Did
class_of (r.Held job) = Did
class_of (r.Ordered job postage) = Did
class_of (r.SentDebit job message) = Did
class_of (r.Printed job) = Did
class_of (r.PrinterFault job) = PrinterFailed job
class_of (r.Closed job) = Did
class_of (r.Trusted d) = Did
class_of (r.Accepted d piece scan again) = Did
class_of (r.Reconciled d shown booked under_way) = Did
class_of r.End = Did
class_of r.NoDay = Refused
class_of (r.NoMessage k) = Refused
class_of (r.OffNode n) = Refused
class_of (r.OnAlready n) = Refused
class_of (r.Power n) = LostPower n
class_of (r.Fault n) = Faulted n
class_of (r.Worn n) = Refused
class_of (r.Damaged n) = WasDamaged n
class_of (r.DevRefused d why) = Refused
class_of (r.CentreRefused why) = Refused
class_of (r.HostRefused why) = Refused
class_of (r.ScanRefused why) = Refused

-- == what it reports, as far as anyone looks for it ==

abbrev pub report_of : Reply → Report
report_of (r.Day t) = report.Day t
report_of (r.Rates classes zones) = report.Rates
report_of r.RatesFault = report.Nothing
report_of r.RatesLength = report.Nothing
report_of r.RatesToml = report.Nothing
report_of r.RatesForm = report.Nothing
report_of (r.Made d) = report.Nothing
report_of (r.Up n k) = report.Nothing
report_of (r.Down n) = report.Nothing
report_of (r.CutSet n) = report.Nothing
report_of (r.Marked d piece again mark) = report.Mark d piece again mark
report_of (r.SentRequest d number message) = report.Message message
report_of (r.SentDone d number message) = report.Message message
report_of (r.Status d shown) = report.Nothing
report_of (r.Registered d) = report.Nothing
report_of (r.Opened w) = report.Nothing
report_of (r.Deposited w receipt again total) = report.Nothing
report_of (r.Flagged w suspended) = report.Nothing
report_of (r.Balance w left) = report.Nothing
report_of (r.Ruled d number verdict again message) = report.Ruling verdict message
report_of (r.Settled d number again) = report.Nothing
report_of (r.Applied d number verdict) = report.Verdict verdict
report_of (r.Released d piece again message) = report.Release d piece again message
report_of (r.Held job) = report.Nothing
report_of (r.Ordered job postage) = report.Nothing
report_of (r.SentDebit job message) = report.Debit job message
report_of (r.Printed job) = report.Print job
report_of (r.PrinterFault job) = report.Nothing
report_of (r.Closed job) = report.Nothing
report_of (r.Trusted d) = report.Nothing
report_of (r.Accepted d piece scan again) = report.Acceptance again
report_of (r.Reconciled d shown booked under_way) = report.Nothing
report_of r.End = report.Nothing
report_of r.NoDay = report.Nothing
report_of (r.NoMessage k) = report.Nothing
report_of (r.OffNode n) = report.Nothing
report_of (r.OnAlready n) = report.Nothing
report_of (r.Power n) = report.Power n
report_of (r.Fault n) = report.Fault n
report_of (r.Worn n) = report.Nothing
report_of (r.Damaged n) = report.Damage n
report_of (r.DevRefused d why) = report.Refusal (OfDevice why)
report_of (r.CentreRefused why) = report.Refusal (OfCentre why)
report_of (r.HostRefused why) = report.Refusal (OfHost why)
report_of (r.ScanRefused why) = report.Refusal (OfVerifier why)

-- == what a reply states ==

pub record Telling : Type 0 where
  -- the event was refused: by the bench, or by the node
  pub refused : Bool
  -- the node that lost power, the node with a failed storage, and the node with a fuse that was armed
  pub power : Option Node
  pub fault : Option Node
  pub armed : Option Node
  -- a storage was read, to switch its node on
  pub read : Bool
  -- whether the node of the event is on afterwards; none where it is as before
  pub on : Option Bool
  -- the printer failed, the rates could not be read
  pub unprinted : Bool
  pub unread : Bool

-- none of these
abbrev pub plainly : Telling
plainly = record { refused = false; power = None; fault = None; armed = None; read = false; on = None; unprinted = false; unread = false }

abbrev pub telling : ReplyClass → Telling
telling Did = plainly
telling Refused = record plainly { refused = true }
telling (Armed n) = record plainly { armed = Some n }
telling (CameOn n k) = record plainly { read = true; on = Some true }
telling (WentOff n) = record plainly { on = Some false }
telling (LostPower n) = record plainly { power = Some n; on = Some false }
telling (Faulted n) = record plainly { fault = Some n; on = Some false }
telling (WasDamaged n) = record plainly { read = true; on = Some false }
telling (PrinterFailed j) = record plainly { unprinted = true }
telling RatesFailed = record plainly { unread = true }

abbrev pub is_named : Node → Option Node → Bool
is_named n None = false
is_named n (Some m) = same_node m n

abbrev pub set_on : Option Bool → Bool → Bool
set_on None was = was
set_on (Some is) was = is

abbrev pub refuses : ReplyClass → Bool
refuses t = (telling t).refused

abbrev pub is_refusal : Reply → Bool
is_refusal reply = refuses (class_of reply)

abbrev pub loses_power : Node → ReplyClass → Bool
loses_power n t = is_named n (telling t).power

abbrev pub faults : Node → ReplyClass → Bool
faults n t = is_named n (telling t).fault

abbrev pub arms : Node → ReplyClass → Bool
arms n t = is_named n (telling t).armed

abbrev pub tells_power : Node → Reply → Bool
tells_power n reply = loses_power n (class_of reply)

abbrev pub tells_fault : Node → Reply → Bool
tells_fault n reply = faults n (class_of reply)

abbrev pub tells_cut : Node → Reply → Bool
tells_cut n reply = arms n (class_of reply)

-- power was cut at some node, or its storage failed
abbrev pub is_failure : ReplyClass → Bool
is_failure t = is_some (telling t).power || is_some (telling t).fault

abbrev pub tells_failure : Reply → Bool
tells_failure reply = is_failure (class_of reply)

abbrev pub has_read : Reply → Bool
has_read reply = (telling (class_of reply)).read

abbrev pub tells_printer : Reply → Bool
tells_printer reply = (telling (class_of reply)).unprinted

abbrev pub fails_to_read : ReplyClass → Bool
fails_to_read t = (telling t).unread

abbrev pub tells_rates : Reply → Bool
tells_rates reply = fails_to_read (class_of reply)

abbrev pub leaves_on : ReplyClass → Bool → Bool
leaves_on t was = set_on (telling t).on was

abbrev pub on_after : Reply → Bool → Bool
on_after reply was = leaves_on (class_of reply) was

-- == which events may get it, whether or not the storages expose their contents ==

-- the event is a call of this node, or of the one that a message is for
pub record Calls (e : Event) (n : Node) : Type 0 where
  pub on : needs_on e ≡ true
  pub at : IsAt (node_for e) n
  pub no_switch : e ≢ ev.Off n

-- the event commits at this node
pub record Commits (e : Event) (n : Node) : Type 0 where
  pub commits : may_commit e ≡ true
  pub at : IsAt (node_for e) n

-- bytes are handed to this node
abbrev pub Hands : Event → Node → Type 0
Hands e n = ((k : ℕ) × (e ≡ ev.Deliver k)) ⊎ ((bytes : List ℕ) × (e ≡ ev.Give n bytes))

-- the event compares this device with the centre
abbrev pub Compares : Event → Type 0
Compares e = (d : ℕ) × (e ≡ ev.Reconcile d)

-- the event finds this node off
abbrev pub FindsOff : Event → Node → Type 0
FindsOff e n = (needs_on e ≡ true) × IsAt (node_for e) n

-- the event boots this node, or commits at it
abbrev pub MayFailAt : Event → Node → Type 0
MayFailAt e n = (e ≡ ev.On n) ⊎ Commits e n

abbrev pub MayGet : Event → Reply → Type 0
MayGet e (r.Day t) = e ≡ ev.Day t
MayGet e (r.Rates classes zones) = e ≡ ev.Rates
MayGet e r.RatesFault = e ≡ ev.Rates
MayGet e r.RatesLength = e ≡ ev.Rates
MayGet e r.RatesToml = e ≡ ev.Rates
MayGet e r.RatesForm = e ≡ ev.Rates
MayGet e (r.Made d) = (key : List ℕ) × (e ≡ ev.Make d key)
MayGet e (r.Up n k) = e ≡ ev.On n
MayGet e (r.Down n) = e ≡ ev.Off n
MayGet e (r.CutSet n) = (calls keep byte : ℕ) × (e ≡ ev.Cut n calls keep byte)
MayGet e (r.Marked d piece again mark) = (postage class : ℕ) × (e ≡ ev.Debit d piece postage class)
MayGet e (r.SentRequest d number message) = ((kind : Kind) × (who amount : ℕ) × (e ≡ ev.Ask d kind who amount)) ⊎ (e ≡ ev.Resend d)
MayGet e (r.SentDone d number message) = e ≡ ev.Ack d
MayGet e (r.Status d shown) = e ≡ ev.Status d
MayGet e (r.Registered d) = (origin : ℕ) × (key : List ℕ) × (e ≡ ev.Register d origin key)
MayGet e (r.Opened w) = e ≡ ev.OpenCustomer w
MayGet e (r.Deposited w receipt again total) = (amount : ℕ) × (e ≡ ev.Deposit w receipt amount)
MayGet e (r.Flagged w suspended) = e ≡ ev.Flag w suspended
MayGet e (r.Balance w left) = e ≡ ev.Balance w
MayGet e (r.Ruled d number verdict again message) = Hands e Centre
MayGet e (r.Settled d number again) = Hands e Centre
MayGet e (r.Applied d number verdict) = Hands e (Device d)
MayGet e (r.Released d piece again message) = Hands e (Device d)
MayGet e (r.Held job) = Hands e Host
MayGet e (r.Ordered job postage) = (d piece class grams zone : ℕ) × (e ≡ ev.Order d piece class grams zone)
MayGet e (r.SentDebit job message) = e ≡ ev.Send job
MayGet e (r.Printed job) = e ≡ ev.Print job
MayGet e (r.PrinterFault job) = e ≡ ev.Print job
MayGet e (r.Closed job) = e ≡ ev.Close job
MayGet e (r.Trusted d) = (key : List ℕ) × (e ≡ ev.Trust d key)
MayGet e (r.Accepted d piece scan again) = ((k : ℕ) × (e ≡ ev.ScanMsg scan k)) ⊎ ((bytes : List ℕ) × (e ≡ ev.ScanHex scan bytes))
MayGet e (r.Reconciled d shown booked under_way) = e ≡ ev.Reconcile d
MayGet e r.End = e ≡ ev.End
MayGet e r.NoDay = needs_day e ≡ true
MayGet e (r.NoMessage k) = (e ≡ ev.Deliver k) ⊎ ((scan : ℕ) × (e ≡ ev.ScanMsg scan k))
MayGet e (r.OffNode n) = FindsOff e n ⊎ ((n ≡ Centre) × Compares e)
MayGet e (r.OnAlready n) = e ≡ ev.On n
MayGet e (r.Power n) = MayFailAt e n
MayGet e (r.Fault n) = MayFailAt e n
MayGet e (r.Worn n) = Commits e n
MayGet e (r.Damaged n) = e ≡ ev.On n
MayGet e (r.DevRefused d why) = Calls e (Device d)
MayGet e (r.CentreRefused why) = Calls e Centre ⊎ Compares e
MayGet e (r.HostRefused why) = Calls e Host
MayGet e (r.ScanRefused why) = Calls e Verifier
