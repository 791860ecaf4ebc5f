-- What a device answers, and what its record is afterwards: the first refusal that holds, otherwise the act.
use lib.Signed.{lt_z}
use Rattle.std.specs.Prelude.{ℕ, ℤ, pos, ◌+◌, ◌+ℤ◌, Bool, true, false, not, ◌&&◌, ◌||◌, List, [], ◌∷◌, Option, Some, None, Result, Ok, Err, nat_lt, nat_le, ◌==◌, if◌then◌else◌}
use Rattle.bench_base.specs.declared.{words.Kind.Kind, words.Kind.TheVariants.Enrol, words.Kind.TheVariants.Reset, words.Kind.TheVariants.Audit, words.Kind.TheVariants.Refund, words.Kind.TheVariants.Withdraw, words.Phase.Phase, words.Phase.TheVariants.Manufactured, words.Phase.TheVariants.Authorised, words.Phase.TheVariants.InService, words.Phase.TheVariants.Withdrawn, refusals.DevRefusal.DevRefusal, events.DevView.DevView}
use Rattle.bench_base.specs.declared.refusals.DevRefusal.TheVariants as no
use Rattle.bench_base.specs.Rules.{Rules}
use Rattle.bench_base.specs.Rows.{first_holding}
use Rattle.bench_base.specs.Kinds.{same_kind, empties, is_granted, is_allowed}
use Rattle.indicium.specs.declared.Mark.{Mark}
use Rattle.indicium.specs.Marks as marks
use Rattle.psd_wire.specs.declared.{message.Request.Request, message.ReplyMsg.ReplyMsg, message.DebitMsg.DebitMsg}
use Rattle.psd_wire.specs.declared.message.Message.TheVariants as m
use Rattle.psd_wire.specs.Grammar.{spell}
use Rattle.ledger_terms.specs.Devices.{lock}
use Rattle.registers.specs.Sums.{Sums, total, debited, loaded, cleared, zeros}
use Rattle.psd_state.specs.State.{State, Holds}
use Rattle.psd_state.specs.declared.{debiting.Debited.Debited, debiting.Debited.TheVariants.New, debiting.Debited.TheVariants.Again}

-- == refusals ==

-- the refusal of what is there, otherwise the answer
abbrev pub unless : {A : Type 0} → Option Kind → (Kind → DevRefusal) → Result A DevRefusal → Result A DevRefusal
unless None refusal answer = answer
unless (Some k) refusal answer = Err (refusal k)

-- the kind of what is outstanding
abbrev pub waiting_kind : Option Request → Option Kind
waiting_kind None = None
waiting_kind (Some q) = Some q.kind

-- the kind of what is outstanding, where that is a refund or withdrawal
abbrev pub frozen_kind : Option Request → Option Kind
frozen_kind None = None
frozen_kind (Some q) = if empties q.kind then Some q.kind else None

-- the device is in service
abbrev pub in_service : Phase → Bool
in_service InService = true
in_service _ = false

-- == debit ==

-- past the deadline, small postage is franked for the days of grace
abbrev pub is_overdue : Rules → ℤ → ℤ → ℕ → Bool
is_overdue ρ today deadline postage = lt_z (deadline +ℤ pos ρ.grace) today || (lt_z deadline today && nat_lt ρ.small postage)

-- when the debit of a piece that was not marked before is refused, whatever is outstanding
abbrev pub piece_rows : State → DebitMsg → List (Bool × Result Debited DevRefusal)
piece_rows s c =
    (not (c.piece == s.registers.pieces + 1), Err (no.WrongPiece s.registers.pieces))
    ∷ (not (in_service s.phase), Err (no.Phase s.phase))
    ∷ []

-- when it is refused if no refund or withdrawal is outstanding
abbrev pub debit_rows : Rules → State → DebitMsg → ℤ → List (Bool × Result Debited DevRefusal)
debit_rows ρ s c today =
    (lt_z today s.last_day, Err (no.ClockBack s.last_day))
    ∷ (is_overdue ρ today s.deadline c.postage, Err (no.Due s.deadline))
    ∷ ((c.postage == 0) || nat_lt 100000 c.postage, Err (no.BadAmount c.postage))
    ∷ (nat_lt s.registers.descending c.postage, Err (no.NoFunds s.registers.descending))
    ∷ []

-- the mark of a debit on a device of this origin, after which the registers are these
abbrev pub mark_of : Rules → ℕ → ℕ → DebitMsg → Sums → ℤ → Mark
mark_of ρ device origin c after today = record {
  version = ρ.version;
  device = device;
  piece = c.piece;
  postage = c.postage;
  ascending = after.ascending;
  descending = after.descending;
  day = today;
  origin = origin;
  class = c.class;
}

-- the mark of a debit
abbrev pub mark_made : Rules → State → DebitMsg → ℤ → Mark
mark_made ρ s c today = mark_of ρ s.device s.origin c (debited s.registers c.postage) today

-- the record after a debit
abbrev pub after_debit : Rules → State → DebitMsg → ℤ → State
after_debit ρ s c today = record s { registers = debited s.registers c.postage; last_day = today; mark = Some (mark_made ρ s c today) }

-- the answer to a new piece: the first refusal that holds, otherwise its mark
abbrev pub new_answer : Rules → State → DebitMsg → ℤ → Result Debited DevRefusal
new_answer ρ s c today =
    first_holding (piece_rows s c) (unless (frozen_kind s.pending) no.Frozen
    (first_holding (debit_rows ρ s c today) (Ok (New (after_debit ρ s c today) (marks.spell (mark_made ρ s c today) s.key)))))

-- the kept mark, where it is of this piece
abbrev pub repeated : Option Mark → ℕ → Option Mark
repeated None piece = None
repeated (Some k) piece = if k.piece == piece then Some k else None

-- the last debit asked for again gives the same bytes; another debit of its piece is a conflict
abbrev pub again : DebitMsg → List ℕ → Mark → Result Debited DevRefusal
again c key k = if (k.postage == c.postage) && (k.class == c.class) then Ok (Again (marks.spell k key)) else Err (no.Conflict k.postage k.class)

-- the answer to a piece that was the last one, otherwise this one
abbrev pub unless_again : Option Mark → DebitMsg → List ℕ → Result Debited DevRefusal → Result Debited DevRefusal
unless_again None c key otherwise = otherwise
unless_again (Some k) c key otherwise = again c key k

-- the answer to a debit: for another device it is refused, and the last piece is answered again
abbrev pub debit_answer : Rules → State → DebitMsg → ℤ → Result Debited DevRefusal
debit_answer ρ s c today =
    if c.device == s.device
    then unless_again (repeated s.mark c.piece) c s.key (new_answer ρ s c today)
    else Err (no.WrongDevice c.device)

-- the record after a debit holds, where there is a new one
abbrev pub HoldsAfter : Debited → Type 0
HoldsAfter (New s x) = Holds s
HoldsAfter (Again x) = Unit {0}

-- == ask ==

-- past the deadline no reset is asked for: it is the other side of the days of grace
abbrev pub is_late : Rules → ℤ → ℤ → Bool
is_late ρ today deadline = nat_lt 0 ρ.grace && lt_z deadline today

-- when a transaction is not asked for, if no other is outstanding
abbrev pub ask_rows : Rules → State → Kind → ℕ → ℤ → List (Bool × Result (State × List ℕ) DevRefusal)
ask_rows ρ s k a today =
    (not (is_allowed k s.phase), Err (no.Phase s.phase))
    ∷ (lt_z today s.last_day, Err (no.ClockBack s.last_day))
    ∷ (same_kind k Reset && is_late ρ today s.deadline, Err (no.Due s.deadline))
    ∷ (same_kind k Reset && ((a == 0) || nat_lt 10000000 a), Err (no.BadAmount a))
    ∷ (same_kind k Reset && nat_lt ρ.total (total s.registers + a), Err (no.TotalFull (total s.registers)))
    ∷ (nat_le 4294967295 s.number, Err no.NumberFull)
    ∷ []

-- the amount of a reset is the caller's, of a refund or withdrawal all that is left
abbrev pub amount_for : Kind → ℕ → ℕ → ℕ
amount_for Reset asked left = asked
amount_for Refund asked left = left
amount_for Withdraw asked left = left
amount_for _ asked left = 0

-- the customer of an enrolment is the caller's, otherwise the kept one
abbrev pub customer_for : Kind → ℕ → ℕ → ℕ
customer_for Enrol asked own = asked
customer_for _ asked own = own

-- the Request that a device makes, with its sums
abbrev pub request_made : Rules → State → Kind → ℕ → ℕ → ℤ → Request
request_made ρ s k who a today = record {
  version = ρ.version;
  device = s.device;
  number = s.number + 1;
  kind = k;
  customer = customer_for k who s.customer;
  amount = amount_for k a s.registers.descending;
  ascending = s.registers.ascending;
  descending = s.registers.descending;
  refunded = s.registers.refunded;
  pieces = s.registers.pieces;
  day = today;
}

-- the bytes of a request under the device's key
abbrev pub note_for : State → Request → List ℕ
note_for s q = spell (m.Request q) s.key

-- the record after a Request: it is outstanding
abbrev pub after_ask : State → Request → State
after_ask s q = record s { last_day = q.day; pending = Some q }

-- the answer to what is asked for: the first refusal that holds, otherwise the record and the note
abbrev pub ask_answer : Rules → State → Kind → ℕ → ℕ → ℤ → Result (State × List ℕ) DevRefusal
ask_answer ρ s k who a today =
    let q : Request = request_made ρ s k who a today in
    unless (waiting_kind s.pending) no.Busy (first_holding (ask_rows ρ s k a today) (Ok (after_ask s q, note_for s q)))

-- == resend, done ==

-- the request that is outstanding, byte for byte
abbrev pub resend_answer : State → Option Request → Result (List ℕ) DevRefusal
resend_answer s None = Err no.NothingPending
resend_answer s (Some q) = Ok (note_for s q)

-- the Done of the last request
abbrev pub done_note : State → List ℕ
done_note s = spell (m.Done (record { device = s.device; number = s.number })) s.key

-- the answer to an acknowledgement: its Done, unless there was no request yet
abbrev pub done_answer : State → Result (List ℕ) DevRefusal
done_answer s = if s.number == 0 then Err no.NothingDone else Ok (done_note s)

-- == apply ==

-- a Reply of another kind, or granted with another amount
abbrev pub is_stray : ReplyMsg → Request → Bool
is_stray r q = not (same_kind r.kind q.kind) || (is_granted r.verdict && not (r.amount == q.amount))

-- why a Reply is refused: it answers another request, or not as it was asked
abbrev pub apply_rows : ReplyMsg → Request → List (Bool × Result State DevRefusal)
apply_rows r q = (not (r.number == q.number), Err (no.Stale q.number)) ∷ (is_stray r q, Err (no.Stray q.kind)) ∷ []

-- the transaction is over: its number is the last, and nothing is outstanding
abbrev pub ended : State → Request → State
ended s q = record s { number = q.number; pending = None }

-- an authorised device is in service once it was inspected
abbrev pub served : Phase → Phase
served Authorised = InService
served p = p

-- what a granted transaction does
abbrev pub granted : Kind → State → Request → ReplyMsg → State
granted Enrol s q r = record s { phase = Authorised; customer = q.customer; origin = r.origin }
granted Audit s q r = record s { phase = served s.phase; deadline = r.deadline }
granted Reset s q r = record s { registers = loaded s.registers q.amount; deadline = r.deadline }
granted Refund s q r = record s { registers = cleared s.registers }
granted Withdraw s q r = record s { registers = cleared s.registers; phase = Withdrawn }

-- the record after a Reply: granted or not, the request is no longer outstanding
abbrev pub after_apply : State → Request → ReplyMsg → State
after_apply s q r = if is_granted r.verdict then ended (granted q.kind s q r) q else ended s q

-- the answer to a Reply: there has to be a request that it fits
abbrev pub apply_answer : State → Option Request → ReplyMsg → Result State DevRefusal
apply_answer s None r = Err no.NothingPending
apply_answer s (Some q) r = first_holding (apply_rows r q) (Ok (after_apply s q r))

-- == a new device, and what is shown ==

-- the record of a device that was just made
abbrev pub made_state : ℕ → List ℕ → State
made_state device key = record {
  device = device;
  phase = Manufactured;
  key = key;
  registers = zeros;
  number = 0;
  deadline = pos 0;
  last_day = pos 0;
  customer = 0;
  origin = 0;
  pending = None;
  mark = None;
}

-- the record as it is shown on a day
abbrev pub status_of : State → ℤ → DevView
status_of s today = record {
  phase = lock today s.deadline s.phase;
  ascending = s.registers.ascending;
  descending = s.registers.descending;
  refunded = s.registers.refunded;
  pieces = s.registers.pieces;
  number = s.number;
  deadline = s.deadline;
  pending = waiting_kind s.pending;
}
