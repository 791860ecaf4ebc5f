-- The texts of the replies, the ranges of the numbers in them, and what a text shows of its reply.
use Rattle.std.specs.Prelude.{◌≡◌, ℕ, ◌<◌, ◌^◌, List, ◌∷◌, [], length, Bool, true, false, Option, Some, None, codes, decimal, FitsSigned}
use Rattle.std.specs.Int.{w32}
use Rattle.std.specs.Fmt.{signed_decimal}
use Rattle.bench_base.specs.declared.{words.Kind.Kind, words.Verdict.Verdict, words.Verdict.TheVariants.Granted, words.Verdict.TheVariants.NotEnrolled, words.Verdict.TheVariants.EnrolledAlready, words.Verdict.TheVariants.NoCustomer, words.Verdict.TheVariants.Suspended, words.Verdict.TheVariants.NoFunds, words.Verdict.TheVariants.Imbalance, refusals.ScanRefusal.ScanRefusal, refusals.MarkFault.MarkFault, events.Reply.Reply, questions.Refusal.TheVariants.Verifier as OfVerifier, questions.Report.Report}
use Rattle.bench_base.specs.declared.refusals.ScanRefusal.TheVariants as scan
use Rattle.bench_base.specs.declared.refusals.MarkFault.TheVariants as fault
use Rattle.bench_base.specs.declared.events.Reply.TheVariants as reply
use Rattle.bench_base.specs.declared.questions.Report.TheVariants as report
use Rattle.bench_base.specs.Ranges.{IsDevice, IsCustomer, IsNode, IsWord, IsDay}
use Rattle.bench_base.specs.Replies.{report_of}
use Rattle.bench_base.specs.Table.{IsBytes}
use Rattle.script_text.specs.Refusals.{phase_word, dev_words, centre_words, host_words, scan_words, dev_parts, centre_parts, host_parts, scan_parts, AreWhole}
use Rattle.script_words.specs.Words.{joined, device_word, node_word, hex_word, kind_word, new_word}

-- the number that a reply shows for a verdict
abbrev pub verdict_number : Verdict → ℕ
verdict_number Granted = 0
verdict_number NotEnrolled = 1
verdict_number EnrolledAlready = 2
verdict_number NoCustomer = 3
verdict_number Suspended = 4
verdict_number NoFunds = 5
verdict_number Imbalance = 6

-- the same in digits
abbrev pub verdict_word : Verdict → List ℕ
verdict_word v = decimal (verdict_number v)

-- whether a customer is suspended
abbrev pub flagged_word : Bool → List ℕ
flagged_word true = codes "suspended"
flagged_word false = codes "resumed"

-- the kind of the outstanding request, or `none`
abbrev pub pending_word : Option Kind → List ℕ
pending_word None = codes "none"
pending_word (Some kind) = kind_word kind

-- a transaction in flight: its kind and its amount
abbrev pub flight_words : Option (Kind × ℕ) → List (List ℕ)
flight_words None = codes "none" ∷ []
flight_words (Some flight) = kind_word flight.0 ∷ decimal flight.1 ∷ []

-- the words of a reply
unfoldable pub reply_words : Reply → List (List ℕ)
reply_words (reply.Day t) = codes "day" ∷ signed_decimal t ∷ []
reply_words (reply.Rates classes zones) = codes "rates" ∷ decimal classes ∷ decimal zones ∷ []
reply_words reply.RatesFault = codes "rates" ∷ codes "fault" ∷ []
reply_words reply.RatesLength = codes "rates" ∷ codes "length" ∷ []
reply_words reply.RatesToml = codes "rates" ∷ codes "toml" ∷ []
reply_words reply.RatesForm = codes "rates" ∷ codes "form" ∷ []
reply_words (reply.Made d) = codes "made" ∷ device_word d ∷ []
reply_words (reply.Up n commits) = codes "up" ∷ node_word n ∷ codes "commits" ∷ decimal commits ∷ []
reply_words (reply.Down n) = codes "down" ∷ node_word n ∷ []
reply_words (reply.CutSet n) = codes "cut" ∷ node_word n ∷ []
reply_words (reply.Marked d piece again mark) = codes "mark" ∷ device_word d ∷ decimal piece ∷ new_word again ∷ hex_word mark ∷ []
reply_words (reply.SentRequest d number k) = codes "sent" ∷ device_word d ∷ codes "request" ∷ decimal number ∷ codes "msg" ∷ decimal k ∷ []
reply_words (reply.SentDone d number k) = codes "sent" ∷ device_word d ∷ codes "done" ∷ decimal number ∷ codes "msg" ∷ decimal k ∷ []
reply_words (reply.Registered d) = codes "registered" ∷ device_word d ∷ []
reply_words (reply.Opened c) = codes "opened" ∷ decimal c ∷ []
reply_words (reply.Deposited c receipt again total) = codes "deposited" ∷ decimal c ∷ decimal receipt ∷ new_word again ∷ decimal total ∷ []
reply_words (reply.Balance c total) = codes "balance" ∷ decimal c ∷ decimal total ∷ []
reply_words (reply.Ruled d number verdict again k) = codes "ruled" ∷ device_word d ∷ decimal number ∷ codes "verdict" ∷ verdict_word verdict
    ∷ new_word again ∷ codes "msg" ∷ decimal k ∷ []
reply_words (reply.Settled d number again) = codes "settled" ∷ device_word d ∷ decimal number ∷ new_word again ∷ []
reply_words (reply.Applied d number verdict) = codes "applied" ∷ device_word d ∷ decimal number ∷ codes "verdict" ∷ verdict_word verdict ∷ []
reply_words (reply.Released d piece again k) = codes "released" ∷ device_word d ∷ decimal piece ∷ new_word again ∷ codes "msg" ∷ decimal k ∷ []
reply_words (reply.Held j) = codes "held" ∷ decimal j ∷ []
reply_words (reply.Ordered j postage) = codes "ordered" ∷ decimal j ∷ codes "postage" ∷ decimal postage ∷ []
reply_words (reply.SentDebit j k) = codes "sent" ∷ codes "host" ∷ codes "debit" ∷ decimal j ∷ codes "msg" ∷ decimal k ∷ []
reply_words (reply.Printed j) = codes "printed" ∷ decimal j ∷ []
reply_words (reply.PrinterFault j) = codes "printer" ∷ codes "fault" ∷ decimal j ∷ []
reply_words (reply.Closed j) = codes "closed" ∷ decimal j ∷ []
reply_words (reply.Trusted d) = codes "trusted" ∷ device_word d ∷ []
reply_words (reply.Accepted d piece scan again) = codes "accepted" ∷ device_word d ∷ decimal piece ∷ codes "scan" ∷ decimal scan ∷ new_word again ∷ []
reply_words reply.End = codes "end" ∷ []
reply_words reply.NoDay = codes "no" ∷ codes "day" ∷ []
reply_words (reply.NoMessage k) = codes "no" ∷ codes "message" ∷ decimal k ∷ []
reply_words (reply.OffNode n) = codes "off" ∷ node_word n ∷ []
reply_words (reply.OnAlready n) = codes "on" ∷ codes "already" ∷ node_word n ∷ []
reply_words (reply.Power n) = codes "power" ∷ node_word n ∷ []
reply_words (reply.Fault n) = codes "fault" ∷ node_word n ∷ []
reply_words (reply.Worn n) = codes "worn" ∷ node_word n ∷ []
reply_words (reply.Damaged n) = codes "damaged" ∷ node_word n ∷ []
reply_words (reply.Status d v) =
    codes "status" ∷ device_word d ∷ phase_word v.phase
    ∷ codes "ascending" ∷ decimal v.ascending ∷ codes "descending" ∷ decimal v.descending
    ∷ codes "refunded" ∷ decimal v.refunded ∷ codes "pieces" ∷ decimal v.pieces
    ∷ codes "number" ∷ decimal v.number ∷ codes "deadline" ∷ signed_decimal v.deadline
    ∷ codes "pending" ∷ pending_word v.pending ∷ []
reply_words (reply.Flagged c suspended) = flagged_word suspended ∷ decimal c ∷ []
reply_words (reply.Reconciled d own centre flight) =
    codes "reconcile" ∷ device_word d ∷ codes "device" ∷ decimal own ∷ codes "centre" ∷ decimal centre
    ∷ codes "in-flight" ∷ flight_words flight
reply_words (reply.DevRefused d r) = codes "refused" ∷ device_word d ∷ dev_words r
reply_words (reply.CentreRefused r) = codes "refused" ∷ codes "centre" ∷ centre_words r
reply_words (reply.HostRefused r) = codes "refused" ∷ codes "host" ∷ host_words r
reply_words (reply.ScanRefused r) = codes "refused" ∷ codes "verifier" ∷ scan_words r

-- the text of a reply, without its line end
abbrev pub text_of : Reply → List ℕ
text_of r = joined (reply_words r)

-- == the ranges of its numbers ==

-- the amount in flight fits
abbrev pub IsFlight : Option (Kind × ℕ) → Type 0
IsFlight None = Unit {0}
IsFlight (Some flight) = flight.1 < 2 ^ 64

-- each number of the reply fits its type
abbrev pub IsWholeReply : Reply → Type 0
IsWholeReply (reply.Day t) = IsDay t
IsWholeReply (reply.Rates classes zones) = IsWord classes × IsWord zones
IsWholeReply reply.RatesFault = Unit {0}
IsWholeReply reply.RatesLength = Unit {0}
IsWholeReply reply.RatesToml = Unit {0}
IsWholeReply reply.RatesForm = Unit {0}
IsWholeReply (reply.Made d) = IsDevice d
IsWholeReply (reply.Up n commits) = IsNode n × (commits < 2 ^ 64)
IsWholeReply (reply.Down n) = IsNode n
IsWholeReply (reply.CutSet n) = IsNode n
IsWholeReply (reply.Marked d piece again mark) = IsDevice d × IsWord piece × ((length mark ≡ 64) × IsBytes mark)
IsWholeReply (reply.SentRequest d number k) = IsDevice d × IsWord number × IsWord k
IsWholeReply (reply.SentDone d number k) = IsDevice d × IsWord number × IsWord k
IsWholeReply (reply.Registered d) = IsDevice d
IsWholeReply (reply.Opened c) = IsCustomer c
IsWholeReply (reply.Deposited c receipt again total) = IsCustomer c × IsWord receipt × (total < 2 ^ 64)
IsWholeReply (reply.Balance c total) = IsCustomer c × (total < 2 ^ 64)
IsWholeReply (reply.Ruled d number verdict again k) = IsDevice d × IsWord number × IsWord k
IsWholeReply (reply.Settled d number again) = IsDevice d × IsWord number
IsWholeReply (reply.Applied d number verdict) = IsDevice d × IsWord number
IsWholeReply (reply.Released d piece again k) = IsDevice d × IsWord piece × IsWord k
IsWholeReply (reply.Held j) = IsWord j
IsWholeReply (reply.Ordered j postage) = IsWord j × IsWord postage
IsWholeReply (reply.SentDebit j k) = IsWord j × IsWord k
IsWholeReply (reply.Printed j) = IsWord j
IsWholeReply (reply.PrinterFault j) = IsWord j
IsWholeReply (reply.Closed j) = IsWord j
IsWholeReply (reply.Trusted d) = IsDevice d
IsWholeReply (reply.Accepted d piece scan again) = IsDevice d × IsWord piece × IsWord scan
IsWholeReply reply.End = Unit {0}
IsWholeReply reply.NoDay = Unit {0}
IsWholeReply (reply.NoMessage k) = IsWord k
IsWholeReply (reply.OffNode n) = IsNode n
IsWholeReply (reply.OnAlready n) = IsNode n
IsWholeReply (reply.Power n) = IsNode n
IsWholeReply (reply.Fault n) = IsNode n
IsWholeReply (reply.Worn n) = IsNode n
IsWholeReply (reply.Damaged n) = IsNode n
IsWholeReply (reply.Status d v) = IsDevice d × (v.ascending < 2 ^ 64) × (v.descending < 2 ^ 64) × (v.refunded < 2 ^ 64)
    × IsWord v.pieces × IsWord v.number × FitsSigned w32 v.deadline
IsWholeReply (reply.Flagged c suspended) = IsCustomer c
IsWholeReply (reply.Reconciled d own centre flight) = IsDevice d × (own < 2 ^ 64) × (centre < 2 ^ 64) × IsFlight flight
IsWholeReply (reply.DevRefused d r) = IsDevice d × AreWhole (dev_parts r)
IsWholeReply (reply.CentreRefused r) = AreWhole (centre_parts r)
IsWholeReply (reply.HostRefused r) = AreWhole (host_parts r)
IsWholeReply (reply.ScanRefused r) = AreWhole (scan_parts r)

-- a fault of a mark without its number
abbrev pub told_fault : MarkFault → MarkFault
told_fault (fault.Length n) = fault.Length 0
told_fault (fault.Version n) = fault.Version 0
told_fault (fault.Algorithm n) = fault.Algorithm 0

abbrev pub told_refusal : ScanRefusal → ScanRefusal
told_refusal (scan.Unread fault) = scan.Unread (told_fault fault)
told_refusal r = r

-- the reply of this report, if its text shows less than it has: the number in a fault of a mark
abbrev pub told_as : Report → Reply → Reply
told_as (report.Refusal (OfVerifier r)) x = reply.ScanRefused (told_refusal r)
told_as _ x = x

-- the reply as far as its text shows it
abbrev pub told : Reply → Reply
told x = told_as (report_of x) x
