-- The rows of the centre after a list of commits, the newest first. Amounts are in mills.
use Rattle.std.specs.Prelude.{◌≡◌, ℕ, Bool, true, false, List, [], ◌∷◌, Option, Some, None, option_map, ◌==◌, is_some, if◌then◌else◌}
use Rattle.bench_base.specs.declared.{words.Verdict.Verdict, ledger.Commit.Commit, ledger.Commit.TheVariants.Ruled}
use Rattle.psd_wire.specs.declared.message.Request.{Request}
use Rattle.ledger_terms.specs.Sums.{bought, returned}
use Rattle.ledger_terms.specs.Centres.{registered, enrolled, withdrawn, ruled, settled, opened, suspended, deposits, receipt, balance}
use Rattle.ledger_terms.specs.Rulings.{stored_reply, payer, own_customer}
use Rattle.centre_ledger.specs.declared.{rows.DeviceRow.DeviceRow, rows.CustomerRow.CustomerRow, rows.Enrolment.Enrolment, rows.Enrolment.TheVariants.Registered, rows.Enrolment.TheVariants.Enrolled, rows.Enrolment.TheVariants.Withdrawn}
use Rattle.centre_ledger.specs.Rows.{enrolled_in, is_withdrawn, is_suspended}

-- == the last ruling ==

-- verdict and Request of the last Ruled
abbrev pub last_ruling : ℕ → List Commit → Option (Verdict × List ℕ)
last_ruling d [] = None
last_ruling d (Ruled e n v note ∷ C) = if e == d then Some (v, note) else last_ruling d C
last_ruling d (_ ∷ C) = last_ruling d C

-- the Request of the last Ruled, and no bytes before the first
abbrev pub stored_note : Option (Verdict × List ℕ) → List ℕ
stored_note None = []
stored_note (Some x) = x.1

-- the note, or no bytes
abbrev pub note_or_none : Option (List ℕ) → List ℕ
note_or_none None = []
note_or_none (Some note) = note

-- == the rows ==

-- what became of a device, by the customer under which it was enrolled and by whether it was withdrawn
abbrev pub enrolment_of : Option ℕ → Bool → Enrolment
enrolment_of None gone = Registered
enrolment_of (Some w) false = Enrolled w
enrolment_of (Some w) true = Withdrawn w

-- the row of device d after these commits, which is registered with this origin and key
abbrev pub device_row_with : ℕ → List Commit → ℕ × List ℕ → DeviceRow
device_row_with d C x = record {
  device = d;
  enrolment = enrolment_of (enrolled d C) (withdrawn d C);
  origin = x.0;
  key = x.1;
  ruled = ruled d C;
  settled = settled d C;
  buys = bought d C;
  returns = returned d C;
  request = stored_note (last_ruling d C);
  reply = note_or_none (stored_reply d C);
}

-- there is no row if it is not registered
abbrev pub device_row : ℕ → List Commit → Option DeviceRow
device_row d C = option_map (λ x. device_row_with d C x) (registered d C)

-- the row of customer w after these commits, which is open
abbrev pub customer_row_with : ℕ → List Commit → CustomerRow
customer_row_with w C = record { customer = w; suspended = suspended w C; deposits = deposits w C; receipt = (receipt w C).0; amount = (receipt w C).1 }

-- there is no row if it is not open
abbrev pub customer_row : ℕ → List Commit → Option CustomerRow
customer_row w C = if opened w C then Some (customer_row_with w C) else None

-- this is the row of its device after these commits
pub record IsRowOf (r : DeviceRow) (C : List Commit) : Type 0 where
  pub registered : registered r.device C ≡ Some (r.origin, r.key)
  pub enrolled : enrolled r.device C ≡ enrolled_in r
  pub withdrawn : withdrawn r.device C ≡ is_withdrawn r.enrolment
  pub ruled : ruled r.device C ≡ r.ruled
  pub settled : settled r.device C ≡ r.settled
  pub bought : bought r.device C ≡ r.buys
  pub returned : returned r.device C ≡ r.returns
  pub request : stored_note (last_ruling r.device C) ≡ r.request
  pub reply : note_or_none (stored_reply r.device C) ≡ r.reply

-- this is the row of its customer after these commits
pub record IsCustomerOf (r : CustomerRow) (C : List Commit) : Type 0 where
  pub opened : opened r.customer C ≡ true
  pub suspended : suspended r.customer C ≡ r.suspended
  pub deposits : deposits r.customer C ≡ r.deposits
  pub receipt : receipt r.customer C ≡ (r.receipt, r.amount)

-- a device that is only registered
abbrev pub registered_row : ℕ → ℕ → List ℕ → DeviceRow
registered_row d origin key = record {
  device = d;
  enrolment = Registered;
  origin = origin;
  key = key;
  ruled = 0;
  settled = 0;
  buys = 0;
  returns = 0;
  request = [];
  reply = [];
}

-- a customer without deposits
abbrev pub opened_row : ℕ → CustomerRow
opened_row c = record { customer = c; suspended = false; deposits = 0; receipt = 0; amount = 0 }

-- what the rows say of the customer who pays for a Request, and of what the device's own customer has left
pub record PaysBy (q : Request) (o : Option CustomerRow) (left : ℕ) (C : List Commit) : Type 0 where
  pub opened : opened (payer q (enrolled q.device C)) C ≡ is_some o
  pub suspended : suspended (payer q (enrolled q.device C)) C ≡ is_suspended o
  pub balance : balance (own_customer (enrolled q.device C)) C ≡ left
