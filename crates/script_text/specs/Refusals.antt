-- The words of refusals, and the ranges of the numbers in them.
use Rattle.std.specs.Prelude.{ℕ, ℤ, ◌<◌, ◌^◌, List, ◌∷◌, [], map, codes, decimal, FitsSigned}
use Rattle.std.specs.Int.{w32}
use Rattle.std.specs.Fmt.{signed_decimal}
use Rattle.bench_base.specs.declared.{words.Kind.Kind, words.Phase.Phase, words.JobState.JobState, refusals.Unread.Unread, refusals.MarkFault.MarkFault, refusals.DevRefusal.DevRefusal, refusals.CentreRefusal.CentreRefusal, refusals.RateRefusal.RateRefusal, refusals.HostRefusal.HostRefusal, refusals.ScanRefusal.ScanRefusal}
use Rattle.bench_base.specs.declared.words.Phase.TheVariants as phase
use Rattle.bench_base.specs.declared.words.JobState.TheVariants as state
use Rattle.bench_base.specs.declared.refusals.Unread.TheVariants as unread
use Rattle.bench_base.specs.declared.refusals.MarkFault.TheVariants as fault
use Rattle.bench_base.specs.declared.refusals.DevRefusal.TheVariants as dev
use Rattle.bench_base.specs.declared.refusals.CentreRefusal.TheVariants as centre
use Rattle.bench_base.specs.declared.refusals.RateRefusal.TheVariants as rate
use Rattle.bench_base.specs.declared.refusals.HostRefusal.TheVariants as host
use Rattle.bench_base.specs.declared.refusals.ScanRefusal.TheVariants as scan
use Rattle.bench_base.specs.Ranges.{IsCustomer, IsWord}
use Rattle.script_words.specs.Words.{kind_word}

-- the word for a phase of a device
abbrev pub phase_word : Phase → List ℕ
phase_word phase.Blank = codes "blank"
phase_word phase.Manufactured = codes "manufactured"
phase_word phase.Authorised = codes "authorised"
phase_word phase.InService = codes "in-service"
phase_word phase.Locked = codes "locked"
phase_word phase.Withdrawn = codes "withdrawn"

-- the word for a state of a job
abbrev pub state_word : JobState → List ℕ
state_word state.Ordered = codes "ordered"
state_word state.Held = codes "held"
state_word state.Begun = codes "begun"
state_word state.Closed = codes "closed"

-- the word for why bytes are no message
abbrev pub unread_word : Unread → List ℕ
unread_word unread.Length = codes "length"
unread_word unread.Version = codes "version"
unread_word unread.Tag = codes "tag"
unread_word unread.Kind = codes "kind"
unread_word unread.Verdict = codes "verdict"
unread_word unread.Day = codes "day"
unread_word unread.Mark = codes "mark"

-- the number that a fault of a mark carries isn't shown
abbrev pub fault_word : MarkFault → List ℕ
fault_word (fault.Length n) = codes "length"
fault_word (fault.Version n) = codes "version"
fault_word (fault.Algorithm n) = codes "algorithm"

-- a word of a refusal: one that each text of it has, or the word of what it carries
pub data Part : Type 0 where
  said : List ℕ → Part
  -- a number of 32, of 16 and of 64 bits
  of_number : ℕ → Part
  of_short : ℕ → Part
  of_sum : ℕ → Part
  of_customer : ℕ → Part
  of_day : ℤ → Part
  of_kind : Kind → Part
  of_phase : Phase → Part
  of_state : JobState → Part
  of_cause : Unread → Part
  of_fault : MarkFault → Part

-- the word of a part
abbrev pub part_word : Part → List ℕ
part_word (said w) = w
part_word (of_number n) = decimal n
part_word (of_short n) = decimal n
part_word (of_sum n) = decimal n
part_word (of_customer c) = decimal c
part_word (of_day t) = signed_decimal t
part_word (of_kind k) = kind_word k
part_word (of_phase p) = phase_word p
part_word (of_state s) = state_word s
part_word (of_cause cause) = unread_word cause
part_word (of_fault fault) = fault_word fault

-- == the refusals ==

-- the parts of each refusal of a device
abbrev pub dev_parts : DevRefusal → List Part
dev_parts dev.Blank = said (codes "blank") ∷ []
dev_parts dev.Made = said (codes "made") ∷ []
dev_parts (dev.WrongDevice d) = said (codes "wrong") ∷ said (codes "device") ∷ of_number d ∷ []
dev_parts (dev.Conflict postage class) = said (codes "conflict") ∷ of_number postage ∷ of_short class ∷ []
dev_parts (dev.WrongPiece pieces) = said (codes "wrong") ∷ said (codes "piece") ∷ of_number pieces ∷ []
dev_parts (dev.Phase p) = said (codes "phase") ∷ of_phase p ∷ []
dev_parts (dev.Frozen k) = said (codes "frozen") ∷ of_kind k ∷ []
dev_parts (dev.ClockBack t) = said (codes "clock") ∷ said (codes "back") ∷ of_day t ∷ []
dev_parts (dev.Due t) = said (codes "due") ∷ of_day t ∷ []
dev_parts (dev.BadAmount amount) = said (codes "bad") ∷ said (codes "amount") ∷ of_number amount ∷ []
dev_parts (dev.NoFunds descending) = said (codes "no") ∷ said (codes "funds") ∷ of_sum descending ∷ []
dev_parts (dev.Busy k) = said (codes "busy") ∷ of_kind k ∷ []
dev_parts (dev.TotalFull total) = said (codes "total") ∷ said (codes "full") ∷ of_sum total ∷ []
dev_parts dev.NumberFull = said (codes "number") ∷ said (codes "full") ∷ []
dev_parts dev.NothingPending = said (codes "nothing") ∷ said (codes "pending") ∷ []
dev_parts (dev.Stale number) = said (codes "stale") ∷ of_number number ∷ []
dev_parts (dev.Stray k) = said (codes "stray") ∷ of_kind k ∷ []
dev_parts dev.NothingDone = said (codes "nothing") ∷ said (codes "done") ∷ []
dev_parts dev.BadCode = said (codes "bad") ∷ said (codes "code") ∷ []
dev_parts (dev.Unread cause) = said (codes "unread") ∷ of_cause cause ∷ []

-- those of the centre
abbrev pub centre_parts : CentreRefusal → List Part
centre_parts (centre.Unread cause) = said (codes "unread") ∷ of_cause cause ∷ []
centre_parts (centre.UnknownDevice d) = said (codes "unknown") ∷ said (codes "device") ∷ of_number d ∷ []
centre_parts (centre.UnknownCustomer c) = said (codes "unknown") ∷ said (codes "customer") ∷ of_customer c ∷ []
centre_parts centre.BadCode = said (codes "bad") ∷ said (codes "code") ∷ []
centre_parts (centre.Old number) = said (codes "old") ∷ of_number number ∷ []
centre_parts (centre.Ahead number) = said (codes "ahead") ∷ of_number number ∷ []
centre_parts (centre.Changed number) = said (codes "changed") ∷ of_number number ∷ []
centre_parts centre.Known = said (codes "known") ∷ []
centre_parts (centre.WrongReceipt receipt) = said (codes "wrong") ∷ said (codes "receipt") ∷ of_number receipt ∷ []
centre_parts (centre.Conflict amount) = said (codes "conflict") ∷ of_number amount ∷ []
centre_parts (centre.BadAmount amount) = said (codes "bad") ∷ said (codes "amount") ∷ of_number amount ∷ []
centre_parts (centre.DepositsFull total) = said (codes "deposits") ∷ said (codes "full") ∷ of_sum total ∷ []

-- those of the rates
abbrev pub rate_parts : RateRefusal → List Part
rate_parts rate.NoClass = said (codes "no") ∷ said (codes "class") ∷ []
rate_parts (rate.NoZone zones) = said (codes "no") ∷ said (codes "zone") ∷ of_number zones ∷ []
rate_parts (rate.TooHeavy grams) = said (codes "too") ∷ said (codes "heavy") ∷ of_number grams ∷ []

-- those of the host
abbrev pub host_parts : HostRefusal → List Part
host_parts host.NoRates = said (codes "no") ∷ said (codes "rates") ∷ []
host_parts (host.Rate r) = rate_parts r
host_parts (host.OpenJob j) = said (codes "open") ∷ said (codes "job") ∷ of_number j ∷ []
host_parts (host.Used piece) = said (codes "piece") ∷ said (codes "used") ∷ of_number piece ∷ []
host_parts (host.JobsFull j) = said (codes "jobs") ∷ said (codes "full") ∷ of_number j ∷ []
host_parts host.NumberFull = said (codes "number") ∷ said (codes "full") ∷ []
host_parts host.NoJob = said (codes "no") ∷ said (codes "job") ∷ []
host_parts (host.State s) = said (codes "state") ∷ of_state s ∷ []
host_parts (host.Unread cause) = said (codes "unread") ∷ of_cause cause ∷ []
host_parts (host.OtherPiece piece) = said (codes "other") ∷ said (codes "piece") ∷ of_number piece ∷ []
host_parts (host.OtherPostage postage) = said (codes "other") ∷ said (codes "postage") ∷ of_number postage ∷ []
host_parts (host.OtherClass class) = said (codes "other") ∷ said (codes "class") ∷ of_short class ∷ []

-- those of the verifier
abbrev pub scan_parts : ScanRefusal → List Part
scan_parts (scan.Unread fault) = said (codes "unread") ∷ of_fault fault ∷ []
scan_parts (scan.Unknown d) = said (codes "unknown") ∷ said (codes "device") ∷ of_number d ∷ []
scan_parts scan.BadCode = said (codes "bad") ∷ said (codes "code") ∷ []
scan_parts (scan.Duplicate scan) = said (codes "duplicate") ∷ of_number scan ∷ []
scan_parts (scan.Future t) = said (codes "future") ∷ of_day t ∷ []
scan_parts (scan.TooOld t) = said (codes "too") ∷ said (codes "old") ∷ of_day t ∷ []
scan_parts scan.BlocksFull = said (codes "blocks") ∷ said (codes "full") ∷ []
scan_parts scan.Known = said (codes "known") ∷ []

-- == their words ==

-- the words of a refusal of a device
unfoldable pub dev_words : DevRefusal → List (List ℕ)
dev_words r = map part_word (dev_parts r)

-- those of the centre
unfoldable pub centre_words : CentreRefusal → List (List ℕ)
centre_words r = map part_word (centre_parts r)

abbrev pub rate_words : RateRefusal → List (List ℕ)
rate_words r = map part_word (rate_parts r)

-- those of the host
unfoldable pub host_words : HostRefusal → List (List ℕ)
host_words r = map part_word (host_parts r)

-- those of the verifier
unfoldable pub scan_words : ScanRefusal → List (List ℕ)
scan_words r = map part_word (scan_parts r)

-- each number that a refusal carries fits its type
abbrev pub AreWhole : List Part → Type 0
AreWhole [] = Unit {0}
AreWhole (said w ∷ parts) = AreWhole parts
AreWhole (of_number n ∷ parts) = IsWord n × AreWhole parts
AreWhole (of_short n ∷ parts) = (n < 2 ^ 16) × AreWhole parts
AreWhole (of_sum n ∷ parts) = (n < 2 ^ 64) × AreWhole parts
AreWhole (of_customer c ∷ parts) = IsCustomer c × AreWhole parts
AreWhole (of_day t ∷ parts) = FitsSigned w32 t × AreWhole parts
AreWhole (of_kind k ∷ parts) = AreWhole parts
AreWhole (of_phase p ∷ parts) = AreWhole parts
AreWhole (of_state s ∷ parts) = AreWhole parts
AreWhole (of_cause cause ∷ parts) = AreWhole parts
AreWhole (of_fault fault ∷ parts) = AreWhole parts
