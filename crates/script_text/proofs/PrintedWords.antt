-- The bytes of each kind of word are above the space.
use Rattle.std.proofs.Common.{◌≡◌, ℕ, suc, ℤ, ◌+◌, ◌^◌, ◌<◌, List, [], ◌∷◌, Bool, true, false, leb, cond, refl, sym, ap, ◌∙◌, subst, arith, decimal, codes, inl, inr, pos, negsuc, Option, Some, None, map, ◌&&◌}
use Rattle.std.proofs.lemmas.Bool.Decides.{leb_tells}
use Rattle.std.proofs.lemmas.Bool.{and_parts}
use Rattle.std.specs.Fmt.{signed_decimal}
use Rattle.std.specs.Prelude.{FitsSigned}
use Rattle.std.specs.Int.{w32}
use Rattle.std.proofs.lemmas.Int.{ints}
use Rattle.psd_audit.specs.Dates.{IsDateText}
use Rattle.bench_base.specs.declared.{words.Kind.Kind, words.Kind.TheVariants.Enrol, words.Kind.TheVariants.Reset, words.Kind.TheVariants.Audit, words.Kind.TheVariants.Refund, words.Kind.TheVariants.Withdraw, words.Node.Node, words.Node.TheVariants.Device, words.Node.TheVariants.Centre, words.Node.TheVariants.Host, words.Node.TheVariants.Verifier, words.Phase.Phase, words.JobState.JobState, words.Verdict.Verdict, refusals.Unread.Unread, refusals.DevRefusal.DevRefusal, refusals.CentreRefusal.CentreRefusal, refusals.RateRefusal.RateRefusal, refusals.HostRefusal.HostRefusal, refusals.ScanRefusal.ScanRefusal, refusals.MarkFault.MarkFault}
use Rattle.bench_base.specs.Table.{IsBytes}
use Rattle.bench_base.specs.Ranges.{IsDevice, IsCustomer, IsWord, IsNode, TakesBytes, IsAsk, IsDay}
use Rattle.bench_base.specs.declared.words.Phase.TheVariants as phase
use Rattle.bench_base.specs.declared.words.JobState.TheVariants as state
use Rattle.bench_base.specs.declared.words.Verdict.TheVariants as verdict
use Rattle.bench_base.specs.declared.refusals.Unread.TheVariants as unread
use Rattle.bench_base.specs.declared.refusals.DevRefusal.TheVariants as dev
use Rattle.bench_base.specs.declared.refusals.CentreRefusal.TheVariants as centre
use Rattle.bench_base.specs.declared.refusals.RateRefusal.TheVariants as rate
use Rattle.bench_base.specs.declared.refusals.HostRefusal.TheVariants as host
use Rattle.bench_base.specs.declared.refusals.ScanRefusal.TheVariants as scan
use Rattle.bench_base.specs.declared.refusals.MarkFault.TheVariants as fault
use Rattle.script_words.specs.Words.{device_word, node_word, hex_word, given_word, kind_word, new_word}
use Rattle.script_text.specs.Grammar.{ask_words, flag_word}
use Rattle.script_text.specs.Refusals.{Part, said, of_number, of_short, of_sum, of_customer, of_day, of_kind, of_phase, of_state, of_cause, of_fault, part_word, phase_word, state_word, unread_word, fault_word, dev_parts, centre_parts, rate_parts, host_parts, scan_parts, dev_words, centre_words, host_words, scan_words, AreWhole}
use Rattle.script_text.specs.Texts.{verdict_word, flagged_word, pending_word, flight_words, IsFlight}
use Rattle.script_words.proofs.HexDigits.{AreLower-encode, Printed-are_lower}
use Rattle.script_words.proofs.Numbers.{Printed-decimal}
use Rattle.script_words.proofs.Splits.{Printed, ArePrinted}
use Rattle.script_text.proofs.ReadBack.{IsSmall}

pub cell : (n : ℕ) → 32 < 48 + n
cell n = omega arith

pub dash : (n : ℕ) → n ≡ 45 → 32 < n
dash n h = omega (arith, h)

-- a word of letters, tested
abbrev pub is_printed : List ℕ → Bool
is_printed [] = true
is_printed (c ∷ w) = cond (leb c 32) false (is_printed w)

pub literal : (w : List ℕ) → is_printed w ≡ true → Printed w
literal [] h = tt
literal (c ∷ w) h =
    elim (leb_tells c 32) [
      | inl x ↦ absurd (cc (sym (ap (λ (b : Bool). cond b false (is_printed w)) x.0) ∙ h))
      | inr x ↦ (x.1, literal w (sym (ap (λ (b : Bool). cond b false (is_printed w)) x.0) ∙ h))
    ]

pub number : (n : ℕ) → n < 2 ^ 64 → Printed (decimal n)
number n h = Printed-decimal n h

pub word : (n : ℕ) → IsWord n → Printed (decimal n)
word n h = Printed-decimal n (omega (arith, h))

pub class_word : (n : ℕ) → n < 2 ^ 16 → Printed (decimal n)
class_word n h = Printed-decimal n (omega (arith, h))

pub customer : (c : ℕ) → IsCustomer c → Printed (decimal c)
customer c h = Printed-decimal c (omega (arith, h.1))

pub device : (d : ℕ) → IsDevice d → Printed (device_word d)
device d h = (cell 52, Printed-decimal d (omega (arith, h.1)))

pub node : (n : Node) → IsNode n → Printed (node_word n)
node (Device d) h = device d h
node Centre h = literal (codes "centre") refl
node Host h = literal (codes "host") refl
node Verifier h = literal (codes "verifier") refl

pub taker : (n : Node) → TakesBytes n → Printed (node_word n)
taker (Device d) h = device d h
taker Centre h = node Centre tt
taker Host h = node Host tt
taker Verifier h = absurd h

pub digits : (bytes : List ℕ) → IsBytes bytes → Printed (hex_word bytes)
digits bytes h = Printed-are_lower (hex_word bytes) (AreLower-encode bytes h)

pub given : (bytes : List ℕ) → IsBytes bytes → Printed (given_word bytes)
given [] h = literal (codes "-") refl
given (b ∷ bytes) h = digits (b ∷ bytes) h

pub kind : (k : Kind) → Printed (kind_word k)
kind Enrol = literal (codes "enrol") refl
kind Reset = literal (codes "reset") refl
kind Audit = literal (codes "audit") refl
kind Refund = literal (codes "refund") refl
kind Withdraw = literal (codes "withdraw") refl

pub asked : (k : Kind) (c a : ℕ) → IsAsk k c a → ArePrinted (ask_words k c a)
asked Enrol c a h = (kind Enrol, (word c h.0, tt))
asked Reset c a h = (kind Reset, (word a h.1, tt))
asked Audit c a h = (kind Audit, tt)
asked Refund c a h = (kind Refund, tt)
asked Withdraw c a h = (kind Withdraw, tt)

pub flag : (b : Bool) → Printed (flag_word b)
flag true = literal (codes "suspend") refl
flag false = literal (codes "resume") refl

pub date : (t : ℤ) (text : List ℕ) → IsDateText t text → Printed text
date t text h = subst Printed (sym h.spelled) (cell _, (cell _, (cell _, (cell _, (dash 45 refl, (cell _, (cell _, (dash 45 refl, (cell _, (cell _, tt))))))))))

-- == of replies ==

pub newness : (b : Bool) → Printed (new_word b)
newness true = literal (codes "again") refl
newness false = literal (codes "new") refl

pub phase_printed : (p : Phase) → Printed (phase_word p)
phase_printed phase.Blank = literal (codes "blank") refl
phase_printed phase.Manufactured = literal (codes "manufactured") refl
phase_printed phase.Authorised = literal (codes "authorised") refl
phase_printed phase.InService = literal (codes "in-service") refl
phase_printed phase.Locked = literal (codes "locked") refl
phase_printed phase.Withdrawn = literal (codes "withdrawn") refl

pub state_printed : (s : JobState) → Printed (state_word s)
state_printed state.Ordered = literal (codes "ordered") refl
state_printed state.Held = literal (codes "held") refl
state_printed state.Begun = literal (codes "begun") refl
state_printed state.Closed = literal (codes "closed") refl

pub unread_printed : (u : Unread) → Printed (unread_word u)
unread_printed unread.Length = literal (codes "length") refl
unread_printed unread.Version = literal (codes "version") refl
unread_printed unread.Tag = literal (codes "tag") refl
unread_printed unread.Kind = literal (codes "kind") refl
unread_printed unread.Verdict = literal (codes "verdict") refl
unread_printed unread.Day = literal (codes "day") refl
unread_printed unread.Mark = literal (codes "mark") refl

pub fault_printed : (f : MarkFault) → Printed (fault_word f)
fault_printed (fault.Length n) = literal (codes "length") refl
fault_printed (fault.Version n) = literal (codes "version") refl
fault_printed (fault.Algorithm n) = literal (codes "algorithm") refl

pub verdict_printed : (v : Verdict) → Printed (verdict_word v)
verdict_printed verdict.Granted = Printed-decimal 0 (omega arith)
verdict_printed verdict.NotEnrolled = Printed-decimal 1 (omega arith)
verdict_printed verdict.EnrolledAlready = Printed-decimal 2 (omega arith)
verdict_printed verdict.NoCustomer = Printed-decimal 3 (omega arith)
verdict_printed verdict.Suspended = Printed-decimal 4 (omega arith)
verdict_printed verdict.NoFunds = Printed-decimal 5 (omega arith)
verdict_printed verdict.Imbalance = Printed-decimal 6 (omega arith)

pub day_small : (t : ℤ) → IsDay t → IsSmall t
day_small (pos n) h = omega (arith, ints, h.1)
day_small (negsuc n) h = absurd (omega (arith, ints, h.0))

pub word_small : (t : ℤ) → FitsSigned w32 t → IsSmall t
word_small (pos n) h = omega (arith, ints, h)
word_small (negsuc n) h = omega (arith, ints, h)

pub signed : (t : ℤ) → IsSmall t → Printed (signed_decimal t)
signed (pos n) h = Printed-decimal n (omega (arith, h))
signed (negsuc n) h = (dash 45 refl, Printed-decimal (suc n) (omega (arith, h)))

pub flagged : (b : Bool) → Printed (flagged_word b)
flagged true = literal (codes "suspended") refl
flagged false = literal (codes "resumed") refl

pub pending : (p : Option Kind) → Printed (pending_word p)
pending None = literal (codes "none") refl
pending (Some k) = kind k

pub flight_printed : (f : Option (Kind × ℕ)) → IsFlight f → ArePrinted (flight_words f)
flight_printed None h = (literal (codes "none") refl, tt)
flight_printed (Some flight) h = (kind flight.0, (number flight.1 h, tt))

-- == refusals ==

-- the bytes of the words in each text are above the space
abbrev are_plain : List Part → Bool
are_plain [] = true
are_plain (said w ∷ parts) = is_printed w && are_plain parts
are_plain (p ∷ parts) = are_plain parts

parts_printed : (parts : List Part) → are_plain parts ≡ true → AreWhole parts → ArePrinted (map part_word parts)
parts_printed [] plain h = tt
parts_printed (said w ∷ parts) plain h =
    let (first, rest) = and_parts (is_printed w) (are_plain parts) plain in
    (literal w first, parts_printed parts rest h)
parts_printed (of_number n ∷ parts) plain h = (word n h.0, parts_printed parts plain h.1)
parts_printed (of_short n ∷ parts) plain h = (class_word n h.0, parts_printed parts plain h.1)
parts_printed (of_sum n ∷ parts) plain h = (number n h.0, parts_printed parts plain h.1)
parts_printed (of_customer c ∷ parts) plain h = (customer c h.0, parts_printed parts plain h.1)
parts_printed (of_day t ∷ parts) plain h = (signed t (word_small t h.0), parts_printed parts plain h.1)
parts_printed (of_kind k ∷ parts) plain h = (kind k, parts_printed parts plain h)
parts_printed (of_phase p ∷ parts) plain h = (phase_printed p, parts_printed parts plain h)
parts_printed (of_state s ∷ parts) plain h = (state_printed s, parts_printed parts plain h)
parts_printed (of_cause cause ∷ parts) plain h = (unread_printed cause, parts_printed parts plain h)
parts_printed (of_fault fault ∷ parts) plain h = (fault_printed fault, parts_printed parts plain h)

-- the last line of each of these represents all variants that no line above it names
dev_plain : (r : DevRefusal) → are_plain (dev_parts r) ≡ true
dev_plain dev.Blank = refl
dev_plain r = refl

centre_plain : (r : CentreRefusal) → are_plain (centre_parts r) ≡ true
centre_plain centre.BadCode = refl
centre_plain r = refl

rate_plain : (r : RateRefusal) → are_plain (rate_parts r) ≡ true
rate_plain rate.NoClass = refl
rate_plain r = refl

host_plain : (r : HostRefusal) → are_plain (host_parts r) ≡ true
host_plain (host.Rate r) = rate_plain r
host_plain r = refl

scan_plain : (r : ScanRefusal) → are_plain (scan_parts r) ≡ true
scan_plain scan.BadCode = refl
scan_plain r = refl

pub dev_printed : (r : DevRefusal) → AreWhole (dev_parts r) → ArePrinted (dev_words r)
unfolding dev_words
dev_printed r h = parts_printed (dev_parts r) (dev_plain r) h

pub centre_printed : (r : CentreRefusal) → AreWhole (centre_parts r) → ArePrinted (centre_words r)
unfolding centre_words
centre_printed r h = parts_printed (centre_parts r) (centre_plain r) h

pub host_printed : (r : HostRefusal) → AreWhole (host_parts r) → ArePrinted (host_words r)
unfolding host_words
host_printed r h = parts_printed (host_parts r) (host_plain r) h

pub scan_printed : (r : ScanRefusal) → AreWhole (scan_parts r) → ArePrinted (scan_words r)
unfolding scan_words
scan_printed r h = parts_printed (scan_parts r) (scan_plain r) h
