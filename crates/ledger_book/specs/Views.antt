-- What the commits record of one device, of the centre's record of a device, and of a customer, each as one value.
use Rattle.std.specs.Prelude.{ℕ, ℤ, pos, ◌+◌, ◌+ℤ◌, Bool, true, ◌&&◌, ◌||◌, List, Option, Some, max, if◌then◌else◌}
use Rattle.bench_base.specs.declared.{words.Kind.TheVariants.Enrol, words.Kind.TheVariants.Audit, words.Kind.TheVariants.Withdraw, words.Verdict.Verdict, ledger.Commit.Commit}
use Rattle.bench_base.specs.Kinds.{same_kind, is_granted, is_dated}
use Rattle.bench_base.specs.Rows.{first_of}
use Rattle.psd_wire.specs.declared.message.Request.{Request}
use Rattle.ledger_terms.specs.Requests.{request_in}
use Rattle.ledger_terms.specs.Sums.{adds, takes, loaded, refunded, ascending, pieces, bought, returned}
use Rattle.ledger_terms.specs.Devices.{key_of, asked, number, pending, unless_applied, applied_kind, deadline, last_day, customer}
use Rattle.ledger_terms.specs.Centres.{registered, enrolled, withdrawn, ruled, done, stored_request, opened, suspended, deposits, receipt}

-- what was loaded, given back and spent, in mills, and how many pieces were marked
pub record DeviceSums : Type 0 where
  pub loaded : ℕ
  pub refunded : ℕ
  pub ascending : ℕ
  pub pieces : ℕ

-- whether an enrolment, an audit, a withdrawal was granted and applied
pub record AppliedKinds : Type 0 where
  pub enrolled : Bool
  pub inspected : Bool
  pub withdrawn : Bool

pub record OfDevice : Type 0 where
  pub key : Option (List ℕ)
  pub asked : ℕ
  pub number : ℕ
  pub pending : Option (ℕ × List ℕ)
  pub sums : DeviceSums
  pub kinds : AppliedKinds
  pub deadline : ℤ
  pub last_day : ℤ
  pub customer : ℕ

abbrev pub sums_of : ℕ → List Commit → DeviceSums
sums_of d C = record { loaded = loaded d C; refunded = refunded d C; ascending = ascending d C; pieces = pieces d C }

abbrev pub kinds_of : ℕ → List Commit → AppliedKinds
kinds_of d C = record { enrolled = applied_kind Enrol d C; inspected = applied_kind Audit d C; withdrawn = applied_kind Withdraw d C }

-- all that a device's commits record of it, except for the marks
abbrev pub of_device : ℕ → List Commit → OfDevice
of_device d C = record {
  key = key_of d C;
  asked = asked d C;
  number = number d C;
  pending = pending d C;
  sums = sums_of d C;
  kinds = kinds_of d C;
  deadline = deadline d C;
  last_day = last_day d C;
  customer = customer d C;
}

-- after a Made, an Asked, an Applied, a Debited
abbrev pub device_made : List ℕ → OfDevice → OfDevice
device_made key s = record s { key = Some key }

abbrev pub device_asked : ℕ → List ℕ → OfDevice → OfDevice
device_asked n note s = record s { asked = n; pending = Some (n, note); last_day = (request_in note).day }

abbrev pub sums_applied : Verdict → Request → DeviceSums → DeviceSums
sums_applied v q m = record m { loaded = m.loaded + adds v q; refunded = m.refunded + takes v q }

abbrev pub kinds_applied : Verdict → Request → AppliedKinds → AppliedKinds
kinds_applied v q k = record {
  enrolled = (is_granted v && same_kind q.kind Enrol) || k.enrolled;
  inspected = (is_granted v && same_kind q.kind Audit) || k.inspected;
  withdrawn = (is_granted v && same_kind q.kind Withdraw) || k.withdrawn;
}

abbrev pub device_applied : ℕ → Verdict → Request → OfDevice → OfDevice
device_applied n v q s = record s {
  number = n;
  pending = unless_applied n s.pending;
  sums = sums_applied v q s.sums;
  kinds = kinds_applied v q s.kinds;
  deadline = if is_dated v q.kind then q.day +ℤ pos 92 else s.deadline;
  customer = if is_granted v && same_kind q.kind Enrol then q.customer else s.customer;
}

abbrev pub sums_debited : ℕ → DeviceSums → DeviceSums
sums_debited postage m = record m { ascending = m.ascending + postage; pieces = m.pieces + 1 }

abbrev pub device_debited : ℕ → ℤ → OfDevice → OfDevice
device_debited postage day s = record s { sums = sums_debited postage s.sums; last_day = day }

pub record OfCentre : Type 0 where
  pub registered : Option (ℕ × List ℕ)
  pub enrolled : Option ℕ
  pub withdrawn : Bool
  pub ruled : ℕ
  pub done : ℕ
  pub request : Option (List ℕ)
  pub bought : ℕ
  pub returned : ℕ

-- all that the centre's commits record of a device, except for the stored Reply
abbrev pub of_centre : ℕ → List Commit → OfCentre
of_centre d C = record {
  registered = registered d C;
  enrolled = enrolled d C;
  withdrawn = withdrawn d C;
  ruled = ruled d C;
  done = done d C;
  request = stored_request d C;
  bought = bought d C;
  returned = returned d C;
}

-- after a Registered, a Ruled, a Settled
abbrev pub centre_registered : ℕ → List ℕ → OfCentre → OfCentre
centre_registered origin key s = record s { registered = Some (origin, key) }

abbrev pub centre_ruled : ℕ → Verdict → List ℕ → OfCentre → OfCentre
centre_ruled n v note s = record s {
  enrolled = if is_granted v && same_kind (request_in note).kind Enrol then first_of s.enrolled (Some (request_in note).customer) else s.enrolled;
  withdrawn = if is_granted v && same_kind (request_in note).kind Withdraw then true else s.withdrawn;
  ruled = max n s.ruled;
  request = Some note;
  bought = s.bought + adds v (request_in note);
  returned = s.returned + takes v (request_in note);
}

abbrev pub centre_settled : ℕ → OfCentre → OfCentre
centre_settled n s = record s { done = max n s.done }

pub record OfCustomer : Type 0 where
  pub opened : Bool
  pub suspended : Bool
  pub deposits : ℕ
  pub receipt : ℕ × ℕ

abbrev pub of_customer : ℕ → List Commit → OfCustomer
of_customer c C = record { opened = opened c C; suspended = suspended c C; deposits = deposits c C; receipt = receipt c C }
