-- What the centre's rows show, and what they become.
use Rattle.std.specs.Prelude.{◌≡◌, ℕ, ℤ, pos, ◌+◌, ◌+ℤ◌, Bool, true, false, ◌&&◌, List, Option, Some, None, Result, Ok, Err, is_some, if◌then◌else◌}
use Rattle.bench_base.specs.declared.{words.Kind.TheVariants.Enrol, words.Kind.TheVariants.Withdraw, words.Verdict.Verdict, words.Verdict.TheVariants.Granted, words.Verdict.TheVariants.NoFunds, words.Verdict.TheVariants.Imbalance, refusals.CentreRefusal.CentreRefusal}
use Rattle.bench_base.specs.Kinds.{same_kind, is_granted, is_dated}
use Rattle.bench_base.specs.Ranges.{IsCustomer}
use Rattle.psd_wire.specs.declared.{message.Request.Request, message.ReplyMsg.ReplyMsg}
use Rattle.psd_wire.specs.declared.message.Message.TheVariants as m
use Rattle.psd_wire.specs.Grammar.{spell}
use Rattle.ledger_terms.specs.Centres.{is_some_at}
use Rattle.ledger_terms.specs.Sums.{adds, takes}
use Rattle.ledger_terms.specs.Rulings.{Account, own_customer, written_amount}
use Rattle.centre_ledger.specs.declared.{rows.DeviceRow.DeviceRow, rows.CustomerRow.CustomerRow, rows.Enrolment.Enrolment, rows.Enrolment.TheVariants.Registered, rows.Enrolment.TheVariants.Enrolled, rows.Enrolment.TheVariants.Withdrawn}

-- == an enrolment ==

-- the customer of a device that was ever enrolled
abbrev pub customer_of : Enrolment → Option ℕ
customer_of Registered = None
customer_of (Enrolled w) = Some w
customer_of (Withdrawn w) = Some w

-- its number, and 0 where the device was never enrolled
abbrev pub customer_number : Enrolment → ℕ
customer_number e = own_customer (customer_of e)

-- the customer of the device, if it is enrolled or was
abbrev pub enrolled_in : DeviceRow → Option ℕ
enrolled_in r = customer_of r.enrolment

-- the device was withdrawn
abbrev pub is_withdrawn : Enrolment → Bool
is_withdrawn Registered = false
is_withdrawn (Enrolled w) = false
is_withdrawn (Withdrawn w) = true

-- == a ruling ==

-- the customer is there, and is suspended
abbrev pub is_suspended : Option CustomerRow → Bool
is_suspended None = false
is_suspended (Some c) = c.suspended

-- what the rows of a device and of the customer who pays say, with the balance of the device's own customer
abbrev pub account : DeviceRow → Option CustomerRow → ℕ → Account
account r c balance = record {
  enrolled = enrolled_in r;
  withdrawn = is_withdrawn r.enrolment;
  bought = r.buys;
  returned = r.returns;
  opened = is_some c;
  suspended = is_suspended c;
  balance = balance;
}

-- the amount by the verdict: of what was asked, what the device bought before, and the balance
abbrev pub amount_shown : Verdict → ℕ → ℕ → ℕ → ℕ
amount_shown Granted asked bought balance = asked
amount_shown Imbalance asked bought balance = bought
amount_shown NoFunds asked bought balance = balance
amount_shown _ asked bought balance = 0

-- the deadline that a ruling gives: 92 days after the day of a granted reset or audit, otherwise 0
abbrev pub deadline_after : Verdict → Request → ℤ
deadline_after v q = if is_dated v q.kind then q.day +ℤ pos 92 else pos 0

-- the Reply with this verdict
abbrev pub reply_by : DeviceRow → Verdict → ℕ → Request → ReplyMsg
reply_by r v balance q = record {
  version = q.version;
  device = q.device;
  number = q.number;
  kind = q.kind;
  verdict = v;
  amount = written_amount q.version (amount_shown v q.amount r.buys balance);
  deadline = deadline_after v q;
  origin = r.origin;
}

-- the enrolment after a withdrawal
abbrev pub withdrawn_of : Enrolment → Enrolment
withdrawn_of Registered = Registered
withdrawn_of (Enrolled w) = Withdrawn w
withdrawn_of (Withdrawn w) = Withdrawn w

-- a granted enrolment enrols under the customer that it names, a granted withdrawal withdraws
abbrev pub enrolment_after : Enrolment → Verdict → Request → Enrolment
enrolment_after e v q = if is_granted v && same_kind q.kind Enrol then Enrolled q.customer
    else if is_granted v && same_kind q.kind Withdraw then withdrawn_of e else e

-- an enrolment that is granted names a customer
abbrev pub NamesCustomer : Verdict → Request → Type 0
NamesCustomer v q = is_granted v ≡ true → same_kind q.kind Enrol ≡ true → IsCustomer q.customer

-- a ruling settles the one before it
abbrev pub ruled_row : DeviceRow → Verdict → ℕ → Request → List ℕ → DeviceRow
ruled_row r v balance q note = record r {
  enrolment = enrolment_after r.enrolment v q;
  ruled = q.number;
  settled = r.ruled;
  buys = r.buys + adds v q;
  returns = r.returns + takes v q;
  request = note;
  reply = spell (m.Reply (reply_by r v balance q)) r.key;
}

-- == what a Done and a deposit make of a row ==

-- the row of a device after a Done, by its answer
abbrev pub settled_row : DeviceRow → Result (Option ℕ) CentreRefusal → Result (Option DeviceRow) CentreRefusal
settled_row r (Err x) = Err x
settled_row r (Ok None) = Ok None
settled_row r (Ok (Some n)) = Ok (Some (record r { settled = n }))

-- the row of a customer after a deposit, by its answer
abbrev pub deposited_row : CustomerRow → ℕ → ℕ → Result (Option ℕ) CentreRefusal → Result (Option CustomerRow) CentreRefusal
deposited_row r receipt amount (Err x) = Err x
deposited_row r receipt amount (Ok None) = Ok None
deposited_row r receipt amount (Ok (Some deposits)) = Ok (Some (record r { deposits = deposits; receipt = receipt; amount = amount }))

-- == a balance ==

-- the buys of a row that is there and is the customer's
abbrev pub buys_in : ℕ → Option DeviceRow → ℕ
buys_in c None = 0
buys_in c (Some r) = if is_some_at (enrolled_in r) c then r.buys else 0

abbrev pub returns_in : ℕ → Option DeviceRow → ℕ
returns_in c None = 0
returns_in c (Some r) = if is_some_at (enrolled_in r) c then r.returns else 0
