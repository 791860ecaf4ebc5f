-- What each call of the centre does, by what it looks up: in its rows, or in a list of commits. Amounts are in mills.
use Rattle.std.specs.Prelude.{ℕ, ◌-◌, Bool, true, false, List, Option, Some, None, Result, Ok, Err, option_map, if◌then◌else◌}
use Rattle.bench_base.specs.declared.{words.Verdict.Verdict, refusals.Unread.Unread, refusals.CentreRefusal.CentreRefusal}
use Rattle.bench_base.specs.declared.refusals.Unread.TheVariants as unread
use Rattle.bench_base.specs.declared.refusals.CentreRefusal.TheVariants as no
use Rattle.bench_base.specs.declared.ledger.Commit.TheVariants as c
use Rattle.node_acts.specs.declared.{act.Act.Act, act.Act.TheVariants.Refuse, act.Act.TheVariants.Tell, act.Act.TheVariants.Commits}
use Rattle.psd_wire.specs.declared.{message.Request.Request, message.DoneMsg.DoneMsg, message.Message.Message}
use Rattle.psd_wire.specs.declared.message.Message.TheVariants as m
use Rattle.psd_wire.specs.Codes.{has_code}
use Rattle.psd_wire.specs.Grammar.{read}
use Rattle.ledger_terms.specs.Sums.{adds, takes}
use Rattle.ledger_terms.specs.Rulings.{verdict_by, payer, own_customer}
use Rattle.centre_ledger.specs.declared.{rows.DeviceRow.DeviceRow, rows.CustomerRow.CustomerRow, rows.Row.Row, acts.Deposit.Deposit, standing.Standing.Standing, taking.CentreAnswer.CentreAnswer}
use Rattle.centre_ledger.specs.declared.rows.Row.TheVariants as row
use Rattle.centre_ledger.specs.declared.taking.CentreAnswer.TheVariants as centre
use Rattle.centre_ledger.specs.Answers.{deposit_answer, turn_answer, settle_answer}
use Rattle.centre_ledger.specs.Books.{Books, device_at, customer_at, left_in}
use Rattle.centre_ledger.specs.Records.{registered_row, opened_row}
use Rattle.centre_ledger.specs.Rows.{account, enrolled_in, ruled_row, settled_row, deposited_row}
use Rattle.centre_ledger.specs.Standing.{ruling_in, flight_in, flight_told, by_ruling}

-- what a call of the centre does
abbrev pub CentreAct : Type 0 → Type 0
CentreAct A = Act Row CentreRefusal A

-- == what is looked up ==

-- what is acknowledged and what is in flight, where this ruling is
abbrev pub standing_by : DeviceRow → Option (Verdict × Request) → Standing
standing_by r flight = record { centre = (r.buys - by_ruling 0 adds flight) - (r.returns - by_ruling 0 takes flight); in_flight = flight_told flight }

abbrev pub standing_of : DeviceRow → Standing
standing_of r = standing_by r (flight_in r)

-- the row of a device and of a customer, what the customer has left, and what the centre holds of the device
pub record LookUps : Type 0 where
  pub device : ℕ → Option DeviceRow
  pub customer : ℕ → Option CustomerRow
  pub left : ℕ → ℕ
  pub standing : ℕ → Option Standing

abbrev pub in_books : Books → LookUps
in_books b = record {
  device = λ d. device_at b d;
  customer = λ w. customer_at b w;
  left = λ w. left_in b w;
  standing = λ d. option_map standing_of (device_at b d);
}

-- == customers ==

-- a customer is made, by its row: one that is there is refused
abbrev pub opened_act : ℕ → Option CustomerRow → CentreAct (Unit {0})
opened_act w None = Commits (c.Opened w) (row.Customer (opened_row w)) tt
opened_act w (Some r) = Refuse no.Known

-- the same, by what is looked up
abbrev pub open_by : ℕ → LookUps → CentreAct (Unit {0})
open_by w at = opened_act w (at.customer w)

abbrev pub open_act : ℕ → Books → CentreAct (Unit {0})
open_act w b = open_by w (in_books b)

-- a customer is suspended or not, by its row
abbrev pub flagged_act : ℕ → Bool → Option CustomerRow → CentreAct (Unit {0})
flagged_act w flag None = Refuse (no.UnknownCustomer w)
flagged_act w flag (Some r) = Commits (c.Flagged w flag) (row.Customer (record r { suspended = flag })) tt

-- the same, by what is looked up
abbrev pub flag_by : ℕ → Bool → LookUps → CentreAct (Unit {0})
flag_by w flag at = flagged_act w flag (at.customer w)

abbrev pub flag_act : ℕ → Bool → Books → CentreAct (Unit {0})
flag_act w flag b = flag_by w flag (in_books b)

-- the deposits after it are answered, and whether it was made before
abbrev pub taken_act : ℕ → ℕ → ℕ → CustomerRow → Result (Option CustomerRow) CentreRefusal → CentreAct Deposit
taken_act w receipt amount r (Err x) = Refuse x
taken_act w receipt amount r (Ok None) = Tell (record { total = r.deposits; again = true })
taken_act w receipt amount r (Ok (Some next)) = Commits (c.Deposited w receipt amount) (row.Customer next) (record { total = next.deposits; again = false })

-- a deposit is taken, by the row of the customer
abbrev pub deposited_act : ℕ → ℕ → ℕ → Option CustomerRow → CentreAct Deposit
deposited_act w receipt amount None = Refuse (no.UnknownCustomer w)
deposited_act w receipt amount (Some r) = taken_act w receipt amount r
    (deposited_row r receipt amount (deposit_answer (r.receipt, r.amount) r.deposits receipt amount))

-- the same, by what is looked up
abbrev pub deposit_by : ℕ → ℕ → ℕ → LookUps → CentreAct Deposit
deposit_by w receipt amount at = deposited_act w receipt amount (at.customer w)

abbrev pub deposit_act : ℕ → ℕ → ℕ → Books → CentreAct Deposit
deposit_act w receipt amount b = deposit_by w receipt amount (in_books b)

-- what is left is answered of a customer that is open
abbrev pub left_act : ℕ → ℕ → Option CustomerRow → CentreAct ℕ
left_act w left None = Refuse (no.UnknownCustomer w)
left_act w left (Some r) = Tell left

-- the balance of a customer, by what is looked up
abbrev pub balance_by : ℕ → LookUps → CentreAct ℕ
balance_by w at = left_act w (at.left w) (at.customer w)

abbrev pub balance_act : ℕ → Books → CentreAct ℕ
balance_act w b = balance_by w (in_books b)

-- == devices ==

-- a device is registered, by its row: one that is there is refused
abbrev pub registered_act : ℕ → ℕ → List ℕ → Option DeviceRow → CentreAct (Unit {0})
registered_act d origin key None = Commits (c.Registered d origin key) (row.Device (registered_row d origin key)) tt
registered_act d origin key (Some r) = Refuse no.Known

-- the same, by what is looked up
abbrev pub register_by : ℕ → ℕ → List ℕ → LookUps → CentreAct (Unit {0})
register_by d origin key at = registered_act d origin key (at.device d)

abbrev pub register_act : ℕ → ℕ → List ℕ → Books → CentreAct (Unit {0})
register_act d origin key b = register_by d origin key (in_books b)

-- the standing of a device, if it is registered
abbrev pub stood_act : ℕ → Option Standing → CentreAct Standing
stood_act d None = Refuse (no.UnknownDevice d)
stood_act d (Some a) = Tell a

-- the same, by what is looked up
abbrev pub stand_by : ℕ → LookUps → CentreAct Standing
stand_by d at = stood_act d (at.standing d)

abbrev pub standing_act : ℕ → Books → CentreAct Standing
standing_act d b = stand_by d (in_books b)

-- == a Request ==

-- the row of the customer who pays for it, where there is one
abbrev pub payer_in : LookUps → DeviceRow → Request → Option CustomerRow
payer_in at r q = at.customer (payer q (enrolled_in r))

-- what the device's own customer has left
abbrev pub own_left : LookUps → DeviceRow → ℕ
own_left at r = at.left (own_customer (enrolled_in r))

-- how the centre rules on a request, by the rows that are looked up
abbrev pub verdict_in : LookUps → DeviceRow → Request → Verdict
verdict_in at r q = (verdict_by (account r (payer_in at r q) (own_left at r)) q).0

-- the row of the device after that ruling
abbrev pub ruled_in : LookUps → DeviceRow → Request → List ℕ → DeviceRow
ruled_in at r q bytes = ruled_row r (verdict_in at r q) (own_left at r) q bytes

-- the Reply that is kept is given again
abbrev pub repeated_act : DeviceRow → Option (Verdict × List ℕ) → CentreAct CentreAnswer
repeated_act r None = Refuse (no.Changed r.ruled)
repeated_act r (Some x) = Tell (centre.Ruled r.device r.ruled x.0 r.reply true)

-- it is ruled, in one commit with the Reply
abbrev pub newly_ruled : DeviceRow → Verdict → Request → List ℕ → DeviceRow → CentreAct CentreAnswer
newly_ruled r v q bytes next = Commits (c.Ruled r.device q.number v bytes) (row.Device next) (centre.Ruled r.device q.number v next.reply false)

-- the last Request again, or one that is to be ruled
abbrev pub turn_act : List ℕ → Request → DeviceRow → LookUps → Result Bool CentreRefusal → CentreAct CentreAnswer
turn_act bytes q r at (Err x) = Refuse x
turn_act bytes q r at (Ok true) = repeated_act r (ruling_in r)
turn_act bytes q r at (Ok false) = newly_ruled r (verdict_in at r q) q bytes (ruled_in at r q bytes)

-- the act of a Request, by the row of its device and its code
abbrev pub request_act : List ℕ → Request → Option DeviceRow → LookUps → CentreAct CentreAnswer
request_act bytes q None at = Refuse (no.UnknownDevice q.device)
request_act bytes q (Some r) at = if has_code r.key bytes then turn_act bytes q r at (turn_answer r.ruled r.request q.number bytes) else Refuse no.BadCode

-- == a Done ==

-- the act of a Done, by its answer: a number is settled, or was before
abbrev pub settled_act : DeviceRow → ℕ → Result (Option DeviceRow) CentreRefusal → CentreAct CentreAnswer
settled_act r n (Err x) = Refuse x
settled_act r n (Ok None) = Tell (centre.Settled r.device n true)
settled_act r n (Ok (Some next)) = Commits (c.Settled r.device n) (row.Device next) (centre.Settled r.device n false)

-- the act of a Done, by the row of its device and its code
abbrev pub done_act : List ℕ → DoneMsg → Option DeviceRow → CentreAct CentreAnswer
done_act bytes q None = Refuse (no.UnknownDevice q.device)
done_act bytes q (Some r) = if has_code r.key bytes then settled_act r q.number (settled_row r (settle_answer r.settled r.ruled q.number))
    else Refuse no.BadCode

-- == what is taken ==

-- what is done with the message that the bytes read as
abbrev pub message_act : List ℕ → LookUps → Result Message Unread → CentreAct CentreAnswer
message_act bytes at (Ok (m.Request q)) = request_act bytes q (at.device q.device) at
message_act bytes at (Ok (m.Done q)) = done_act bytes q (at.device q.device)
message_act bytes at (Ok _) = Refuse (no.Unread unread.Tag)
message_act bytes at (Err x) = Refuse (no.Unread x)

-- the act of a message, by what it reads as
abbrev pub take_by : List ℕ → LookUps → CentreAct CentreAnswer
take_by bytes at = message_act bytes at (read bytes)

abbrev pub take_act : List ℕ → Books → CentreAct CentreAnswer
take_act bytes b = take_by bytes (in_books b)
