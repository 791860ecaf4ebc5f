-- The messages; a Request and a Reply have two versions. Each layout is a table of sizes, and a row of numbers.
use Rattle.std.specs.Prelude.{◌≡◌, ℕ, ◌≤◌, ◌-◌, ℤ, pos, Bool, true, false, ◌≤ℤ◌, List, [], ◌∷◌, ◌++◌, length, take, drop, get_or, Option, Some, None, Result, Ok, Err, ◌==◌, ◌&&◌, nat_lt, if◌then◌else◌, FitsSigned}
use lib.Signed.{le_z}
use Rattle.std.specs.Int.{w32, cast_unsigned, cast_signed}
use Rattle.hmac_core.specs.Hmac.{hmac}
use Rattle.bench_base.specs.Table.{Size, One, Two, Four, Eight, row, values, Fit}
use Rattle.bench_base.specs.Rules.{is_version, IsVersion}
use Rattle.bench_base.specs.declared.{words.Kind.Kind, words.Kind.TheVariants.Enrol, words.Kind.TheVariants.Reset, words.Kind.TheVariants.Audit, words.Kind.TheVariants.Refund, words.Kind.TheVariants.Withdraw, words.Verdict.Verdict, words.Verdict.TheVariants.Granted, words.Verdict.TheVariants.NotEnrolled, words.Verdict.TheVariants.EnrolledAlready, words.Verdict.TheVariants.NoCustomer, words.Verdict.TheVariants.Suspended, words.Verdict.TheVariants.NoFunds, words.Verdict.TheVariants.Imbalance, refusals.Unread.Unread}
use Rattle.bench_base.specs.declared.refusals.Unread.TheVariants as unread
use Rattle.indicium.specs.Marks.{read_mark}
use Rattle.indicium.specs.declared.Mark.{Mark}
use Rattle.psd_wire.specs.declared.{message.Request.Request, message.ReplyMsg.ReplyMsg, message.DoneMsg.DoneMsg, message.DebitMsg.DebitMsg, message.Message.Message}
use Rattle.psd_wire.specs.declared.message.Message.TheVariants as m

-- the number of a kind
abbrev pub kind_code : Kind → ℕ
kind_code Enrol = 1
kind_code Reset = 2
kind_code Audit = 3
kind_code Refund = 4
kind_code Withdraw = 5

-- the kind of a number, if it has one
unfoldable pub kind_of : ℕ → Option Kind
kind_of n = if n == 1 then Some Enrol else if n == 2 then Some Reset else if n == 3 then Some Audit else if n == 4 then Some Refund
    else if n == 5 then Some Withdraw else None

-- the number of a verdict
abbrev pub verdict_code : Verdict → ℕ
verdict_code Granted = 0
verdict_code NotEnrolled = 1
verdict_code EnrolledAlready = 2
verdict_code NoCustomer = 3
verdict_code Suspended = 4
verdict_code NoFunds = 5
verdict_code Imbalance = 6

-- the verdict of a number, if it has one
unfoldable pub verdict_of : ℕ → Option Verdict
verdict_of n = if n == 0 then Some Granted else if n == 1 then Some NotEnrolled else if n == 2 then Some EnrolledAlready
    else if n == 3 then Some NoCustomer else if n == 4 then Some Suspended else if n == 5 then Some NoFunds else if n == 6 then Some Imbalance else None

-- == the layouts ==

-- the sums of a Request and the amount of a Reply: four bytes in version 1, eight in version 2
abbrev pub sum_size : ℕ → Size
sum_size version = if version == 1 then Four else Eight

-- version, tag, device, number, kind, customer, amount, ascending, descending, refunded, pieces, day; sums have that size
abbrev pub request_table : Size → List Size
request_table s = One ∷ One ∷ Four ∷ Four ∷ One ∷ Four ∷ s ∷ s ∷ s ∷ s ∷ Four ∷ Four ∷ []

-- the numbers of a Request, field by field
abbrev pub request_values : Request → List ℕ
request_values q = q.version ∷ 1 ∷ q.device ∷ q.number ∷ kind_code q.kind ∷ q.customer ∷ q.amount ∷ q.ascending ∷ q.descending ∷ q.refunded ∷ q.pieces
    ∷ cast_unsigned w32 q.day ∷ []

-- version, tag, device, number, kind, verdict, amount, deadline, origin
abbrev pub reply_table : Size → List Size
reply_table s = One ∷ One ∷ Four ∷ Four ∷ One ∷ One ∷ s ∷ Four ∷ Four ∷ []

-- those of a Reply
abbrev pub reply_values : ReplyMsg → List ℕ
reply_values r = r.version ∷ 2 ∷ r.device ∷ r.number ∷ kind_code r.kind ∷ verdict_code r.verdict ∷ r.amount ∷ cast_unsigned w32 r.deadline ∷ r.origin ∷ []

-- version, tag, device, number
abbrev pub done_table : List Size
done_table = One ∷ One ∷ Four ∷ Four ∷ []

-- those of a Done
abbrev pub done_values : DoneMsg → List ℕ
done_values r = 1 ∷ 3 ∷ r.device ∷ r.number ∷ []

-- version, tag, device, piece, postage, class
abbrev pub debit_table : List Size
debit_table = One ∷ One ∷ Four ∷ Four ∷ Four ∷ Two ∷ []

-- those of a Debit
abbrev pub debit_values : DebitMsg → List ℕ
debit_values r = 1 ∷ 16 ∷ r.device ∷ r.piece ∷ r.postage ∷ r.class ∷ []

-- == spelling ==

-- all but the code
unfoldable pub body : Message → List ℕ
body (m.Request q) = row (request_table (sum_size q.version)) (request_values q)
body (m.Reply r) = row (reply_table (sum_size r.version)) (reply_values r)
body (m.Done r) = row done_table (done_values r)
body (m.Debit r) = row debit_table (debit_values r)
body (m.Release x) = 1 ∷ 17 ∷ x

-- whether a message ends in a code
abbrev pub is_coded : Message → Bool
is_coded (m.Debit r) = false
is_coded (m.Release x) = false
is_coded _ = true

-- the one spelling of a message under a key
unfoldable pub spell : Message → List ℕ → List ℕ
spell x key = if is_coded x then body x ++ hmac key (body x) else body x

-- days that the product knows
abbrev pub IsDay : ℤ → Type 0
IsDay z = (pos 10957 ≤ℤ z) × (z ≤ℤ pos 84005)

-- what has a spelling
abbrev pub IsWhole : Message → Type 0
IsWhole (m.Request q) = IsVersion q.version × Fit (request_table (sum_size q.version)) (request_values q) × IsDay q.day
IsWhole (m.Reply r) = IsVersion r.version × Fit (reply_table (sum_size r.version)) (reply_values r) × FitsSigned w32 r.deadline
IsWhole (m.Done r) = Fit done_table (done_values r)
IsWhole (m.Debit r) = Fit debit_table (debit_values r)
IsWhole (m.Release x) = (found : Mark × List ℕ) × (read_mark x ≡ Ok found)

abbrev pub IsCoded : Message → Type 0
IsCoded x = is_coded x ≡ true

-- how many bytes of a code follow the body
abbrev pub code_room : Message → ℕ
code_room x = if is_coded x then 32 else 0

-- the bytes are the body of the message, followed by this code
pub record ReadsAs (bytes : List ℕ) (x : Message) (code : List ℕ) : Type 0 where
  pub whole : IsWhole x
  pub spelled : bytes ≡ body x ++ code
  pub long : length code ≡ code_room x

-- with some code after it
abbrev pub IsReading : List ℕ → Message → Type 0
IsReading bytes x = (code : List ℕ) × ReadsAs bytes x code

-- the last 32 bytes are the code of all before them under the key
abbrev pub HasCode : List ℕ → List ℕ → Type 0
HasCode bytes key = (32 ≤ length bytes) × (drop (length bytes - 32) bytes ≡ hmac key (take (length bytes - 32) bytes))

-- == reading ==

-- how many bytes a message of this version and tag has; version 2 has a Request and a Reply alone
unfoldable pub size_of : ℕ → ℕ → Option ℕ
size_of v t =
    if v == 1
    then (if t == 1 then Some 71 else if t == 2 then Some 56 else if t == 3 then Some 42 else if t == 16 then Some 16 else if t == 17 then Some 66 else None)
    else (if t == 1 then Some 87 else if t == 2 then Some 60 else None)

-- what follows from a value, or this fault without one
abbrev pub given : {A B : Type 0} → Unread → Option A → (A → Result B Unread) → Result B Unread
given e None f = Err e
given e (Some a) f = f a

-- a day of the calendar that the product knows
unfoldable pub day_of : ℤ → Option ℤ
day_of z = if le_z (pos 10957) z && le_z z (pos 84005) then Some z else None

-- the Request with these numbers, of this kind and day
abbrev pub request_from : List ℕ → Kind → ℤ → Request
request_from vs kind day = record {
  version = get_or vs 0 0;
  device = get_or vs 2 0;
  number = get_or vs 3 0;
  kind = kind;
  customer = get_or vs 5 0;
  amount = get_or vs 6 0;
  ascending = get_or vs 7 0;
  descending = get_or vs 8 0;
  refunded = get_or vs 9 0;
  pieces = get_or vs 10 0;
  day = day;
}

-- the Request in these numbers, if its kind and its day are valid
abbrev pub request_in : List ℕ → Result Message Unread
request_in vs = given unread.Kind (kind_of (get_or vs 4 0))
    (λ kind. given unread.Day (day_of (cast_signed w32 (get_or vs 11 0))) (λ day. Ok (m.Request (request_from vs kind day))))

-- the Request in these bytes
unfoldable pub request_at : List ℕ → Result Message Unread
request_at bytes = request_in (values 0 (request_table (sum_size (get_or bytes 0 0))) bytes)

-- the Reply with these numbers, of this kind and verdict
abbrev pub reply_from : List ℕ → Kind → Verdict → ReplyMsg
reply_from vs kind verdict = record {
  version = get_or vs 0 0;
  device = get_or vs 2 0;
  number = get_or vs 3 0;
  kind = kind;
  verdict = verdict;
  amount = get_or vs 6 0;
  deadline = cast_signed w32 (get_or vs 7 0);
  origin = get_or vs 8 0;
}

-- the Reply in these numbers, if its kind and its verdict are valid
abbrev pub reply_in : List ℕ → Result Message Unread
reply_in vs = given unread.Kind (kind_of (get_or vs 4 0))
    (λ kind. given unread.Verdict (verdict_of (get_or vs 5 0)) (λ verdict. Ok (m.Reply (reply_from vs kind verdict))))

-- the Reply in these bytes
unfoldable pub reply_at : List ℕ → Result Message Unread
reply_at bytes = reply_in (values 0 (reply_table (sum_size (get_or bytes 0 0))) bytes)

-- the Done with these numbers
abbrev pub done_from : List ℕ → DoneMsg
done_from vs = record { device = get_or vs 2 0; number = get_or vs 3 0 }

-- the Done in these bytes
unfoldable pub done_at : List ℕ → Message
done_at bytes = m.Done (done_from (values 0 done_table bytes))

-- the Debit with these numbers
abbrev pub debit_from : List ℕ → DebitMsg
debit_from vs = record { device = get_or vs 2 0; piece = get_or vs 3 0; postage = get_or vs 4 0; class = get_or vs 5 0 }

-- the Debit in these bytes
unfoldable pub debit_at : List ℕ → Message
debit_at bytes = m.Debit (debit_from (values 0 debit_table bytes))

-- a Release of these bytes, if they are a mark
abbrev pub if_mark : {A F : Type 0} → Result A F → List ℕ → Result Message Unread
if_mark (Ok x) bytes = Ok (m.Release bytes)
if_mark (Err e) bytes = Err unread.Mark

-- the Release in these bytes
unfoldable pub release_at : List ℕ → Result Message Unread
release_at bytes = if_mark (read_mark (drop 2 bytes)) (drop 2 bytes)

-- the message in these bytes, by its tag
abbrev pub by_tag : ℕ → List ℕ → Result Message Unread
by_tag t bytes =
    if t == 1 then request_at bytes
    else if t == 2 then reply_at bytes
    else if t == 3 then Ok (done_at bytes)
    else if t == 16 then Ok (debit_at bytes)
    else release_at bytes

-- the message of these bytes, or the first fault
unfoldable pub read : List ℕ → Result Message Unread
read bytes =
    if nat_lt (length bytes) 2 then Err unread.Length
    else if is_version (get_or bytes 0 0)
    then given unread.Tag (size_of (get_or bytes 0 0) (get_or bytes 1 0))
    (λ n. if length bytes == n then by_tag (get_or bytes 1 0) bytes else Err unread.Length)
    else Err unread.Version

-- the message that was read, if it ends in a code
abbrev pub coded_in : Result Message Unread → Option Message
coded_in (Ok (m.Request q)) = Some (m.Request q)
coded_in (Ok (m.Reply r)) = Some (m.Reply r)
coded_in (Ok (m.Done r)) = Some (m.Done r)
coded_in _ = None
