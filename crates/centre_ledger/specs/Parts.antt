-- A device's row, part by part, as its payload shows it, and what is found of its messages.
use Rattle.std.specs.Prelude.{◌≡◌, ℕ, ◌+◌, ◌-◌, ◌≤◌, true, List, [], Option, Some, None, Result, Ok, ◌==◌, if◌then◌else◌, length, take, drop, get_or, replicate}
use Rattle.bench_base.specs.Table.{bytes_in, number, room, values}
use Rattle.bench_base.specs.declared.{words.Kind.TheVariants.Reset, refusals.Unread.Unread}
use Rattle.bench_base.specs.Kinds.{same_kind, empties, is_granted}
use Rattle.psd_wire.specs.declared.{message.Message.Message, message.Request.Request, message.ReplyMsg.ReplyMsg}
use Rattle.psd_wire.specs.declared.message.Message.TheVariants as m
use Rattle.psd_wire.specs.Grammar.{IsCoded, IsWhole, spell, sum_size}
use Rattle.centre_ledger.specs.declared.{rows.DeviceRow.DeviceRow, rows.Enrolment.Enrolment, rows.Enrolment.TheVariants.Registered, rows.Enrolment.TheVariants.Enrolled, rows.Enrolment.TheVariants.Withdrawn}
use Rattle.centre_ledger.specs.Rows.{customer_number}
use Rattle.centre_ledger.specs.Soundness.{IsSoundDevice}
use Rattle.centre_ledger.specs.Payload.{state_number, head_table, head, sums_table, request_size, reply_size, kept, request_part, reply_part, end_part, device_spelled, DeviceFits, IsOld}

-- == the parts ==

-- the state by its byte
abbrev pub state_from : ℕ → ℕ → ℕ
state_from version byte = if version == 1 then byte else byte - 16

-- the enrolment by its number and its customer's; where another number stands, no row is spelled so
abbrev pub enrolment_from : ℕ → ℕ → Enrolment
enrolment_from state customer = if state == 2 then Enrolled customer else if state == 3 then Withdrawn customer else Registered

-- the two are the numbers of the enrolment
pub record IsToldBy (number own : ℕ) (e : Enrolment) : Type 0 where
  pub state : state_number e ≡ number
  pub customer : customer_number e ≡ own

-- a row without its messages
abbrev pub bare : DeviceRow → DeviceRow
bare r = record r { request = []; reply = [] }

abbrev pub bare_from : ℕ → List ℕ → List ℕ → List ℕ → DeviceRow
bare_from version hs key vs = record {
  device = get_or hs 0 0;
  enrolment = enrolment_from (state_from version (get_or hs 1 0)) (get_or hs 2 0);
  origin = get_or hs 3 0;
  key = key;
  ruled = get_or vs 0 0;
  settled = get_or vs 1 0;
  buys = get_or vs 2 0;
  returns = get_or vs 3 0;
  request = [];
  reply = [];
}

-- what the bytes say except for the messages
unfoldable pub bare_at : ℕ → List ℕ → DeviceRow
bare_at version bytes = bare_from version (values 0 head_table bytes) (take 32 (drop 13 bytes)) (values 45 (sums_table version) bytes)

-- buys or returns, at that place
abbrev pub sum_at : ℕ → ℕ → List ℕ → ℕ
sum_at version at bytes = number (sum_size version) (take (bytes_in (sum_size version)) (drop at bytes))

-- where the Request begins, where the Reply, and where the zeros at the end
abbrev pub request_place : ℕ → ℕ
request_place version = 45 + room (sums_table version)

abbrev pub reply_place : ℕ → ℕ
reply_place version = request_place version + request_size version

abbrev pub end_place : ℕ → ℕ
end_place version = reply_place version + reply_size version

-- the bytes begin with the row's device, state, customer and origin
abbrev pub HeadIs : ℕ → DeviceRow → List ℕ → Type 0
HeadIs version r bytes = values 0 head_table bytes ≡ head version r

-- the parts, as they stand
pub record Parts (version : ℕ) (r : DeviceRow) (bytes : List ℕ) : Type 0 where
  pub head : HeadIs version r bytes
  pub fields : bare_at version bytes ≡ bare r
  pub request : take (request_size version) (drop (request_place version) bytes) ≡ request_part version r
  pub reply : take (reply_size version) (drop (reply_place version) bytes) ≡ reply_part version r
  pub end : drop (end_place version) bytes ≡ end_part version

-- the two parts keep the messages of the row
pub record KeepMessages (version : ℕ) (request reply : List ℕ) (r : DeviceRow) : Type 0 where
  pub first : request_part version r ≡ request
  pub second : reply_part version r ≡ reply

-- the payload is the spelling of a sound row in this version
pub record IsSpelling (version : ℕ) (payload : List ℕ) (r : DeviceRow) : Type 0 where
  pub sound : IsSoundDevice r
  pub fits : DeviceFits 2 r
  pub old : version ≡ 1 → IsOld r
  pub reads : device_spelled version r ≡ payload

-- == the messages ==

-- How many of its bytes are the Request: in version 2 of the row the Request is without its code. The first of the bytes is
-- the Request's version.
abbrev pub request_front : ℕ → ℕ → ℕ
request_front version first = if version == 1 then 71 else if first == 1 then 39 else 55

abbrev pub reply_front : ℕ → ℕ → ℕ
reply_front version first = if version == 1 then 56 else if first == 1 then 24 else 28

-- the note is the spelling of a message under the key
abbrev pub IsSpelled : List ℕ → List ℕ → Type 0
IsSpelled key note = (x : Message) × IsCoded x × IsWhole x × (spell x key ≡ note)

-- the first bytes are what is kept of a message, and zeros follow
pub record IsNoted (version front : ℕ) (key bytes note : List ℕ) : Type 0 where
  pub spelled : IsSpelled key note
  pub first : kept version note ≡ take front bytes
  pub zeros : replicate (length bytes - front) 0 ≡ drop front bytes

-- the bytes are zeros before the first ruling, and keep a message after it
pub record IsStored (version ruled front : ℕ) (key bytes note : List ℕ) : Type 0 where
  pub unruled : ruled ≡ 0 → (note ≡ []) × (replicate (length bytes) 0 ≡ bytes)
  pub kept : 1 ≤ ruled → IsNoted version front key bytes note

-- the row has messages with their codes if and only if something was ruled
pub record HasMessages (r : DeviceRow) : Type 0 where
  pub unruled : r.ruled ≡ 0 → (r.request ≡ []) × (r.reply ≡ [])
  pub ruled : 1 ≤ r.ruled → IsSpelled r.key r.request × IsSpelled r.key r.reply

-- == the conditions of the messages, and of the ruling in flight ==

-- the message that was read, if it is of this kind
abbrev pub request_of : Result Message Unread → Option Request
request_of (Ok (m.Request q)) = Some q
request_of _ = None

abbrev pub reply_of : Result Message Unread → Option ReplyMsg
reply_of (Ok (m.Reply p)) = Some p
reply_of _ = None

-- the two are the device's, of the number ruled on, and of one kind and version
pub record IsAnswer (r : DeviceRow) (q : Request) (p : ReplyMsg) : Type 0 where
  pub request_device : q.device ≡ r.device
  pub request_number : q.number ≡ r.ruled
  pub reply_device : p.device ≡ r.device
  pub reply_number : p.number ≡ r.ruled
  pub kind : q.kind ≡ p.kind
  pub version : q.version ≡ p.version

-- without the ruling in flight, what is acknowledged is not below 0
pub record IsCovered (r : DeviceRow) (p : ReplyMsg) : Type 0 where
  pub buys : r.ruled ≡ r.settled + 1 → is_granted p.verdict ≡ true → same_kind p.kind Reset ≡ true → r.returns + p.amount ≤ r.buys
  pub returns : r.ruled ≡ r.settled + 1 → is_granted p.verdict ≡ true → empties p.kind ≡ true → p.amount ≤ r.returns
