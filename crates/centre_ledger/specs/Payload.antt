-- The 192 bytes of the centre's rows. A device's row has two versions: both are read, and version 2 is written. A customer's row has one.
use Rattle.std.specs.Prelude.{◌≡◌, ℕ, ◌+◌, ◌-◌, ◌<◌, ◌≤◌, ◌^◌, ◌⊎◌, Bool, List, [], ◌∷◌, ◌++◌, ◌==◌, if◌then◌else◌, length, take, get_or, replicate}
use Rattle.bench_base.specs.Table.{Size, One, Four, Eight, row, Fit}
use Rattle.psd_wire.specs.Grammar.{sum_size}
use Rattle.centre_ledger.specs.declared.{rows.DeviceRow.DeviceRow, rows.CustomerRow.CustomerRow, rows.Enrolment.Enrolment, rows.Enrolment.TheVariants.Registered, rows.Enrolment.TheVariants.Enrolled, rows.Enrolment.TheVariants.Withdrawn, rows.Row.Row, rows.Row.TheVariants.Device, rows.Row.TheVariants.Customer}
use Rattle.centre_ledger.specs.Rows.{customer_number}
use Rattle.centre_ledger.specs.Soundness.{IsSoundDevice, IsSoundCustomer}

-- == the layout of a device's row ==

abbrev pub state_number : Enrolment → ℕ
state_number Registered = 1
state_number (Enrolled w) = 2
state_number (Withdrawn w) = 3

-- in version 2 it is 16 more, so this byte shows the version
abbrev pub state_byte : ℕ → ℕ → ℕ
state_byte version state = if version == 1 then state else state + 16

-- device, state, customer, origin
abbrev pub head_table : List Size
head_table = Four ∷ One ∷ Four ∷ Four ∷ []

abbrev pub head : ℕ → DeviceRow → List ℕ
head version r = r.device ∷ state_byte version (state_number r.enrolment) ∷ customer_number r.enrolment ∷ r.origin ∷ []

-- ruled, settled, buys, returns
abbrev pub sums_table : ℕ → List Size
sums_table version = Four ∷ Four ∷ sum_size version ∷ sum_size version ∷ []

abbrev pub sums : DeviceRow → List ℕ
sums r = r.ruled ∷ r.settled ∷ r.buys ∷ r.returns ∷ []

-- how many bytes the last Request and the Reply to it have, and how many zeros are at the end
abbrev pub request_size : ℕ → ℕ
request_size version = if version == 1 then 71 else 55

abbrev pub reply_size : ℕ → ℕ
reply_size version = if version == 1 then 56 else 28

abbrev pub end_size : ℕ → ℕ
end_size version = if version == 1 then 4 else 40

-- a message without its code; of no bytes nothing is left
abbrev pub uncoded : List ℕ → List ℕ
uncoded note = take (length note - 32) note

-- what is kept of a message: all of it in version 1, and all but the code in version 2
abbrev pub kept : ℕ → List ℕ → List ℕ
kept version note = if version == 1 then note else uncoded note

-- bytes, filled with zeros
abbrev pub filled : ℕ → List ℕ → List ℕ
filled size bytes = bytes ++ replicate (size - length bytes) 0

-- the bytes of a message, or zeros if there is no message
unfoldable pub message_part : ℕ → ℕ → List ℕ → List ℕ
message_part version size note = filled size (kept version note)

unfoldable pub head_part : ℕ → DeviceRow → List ℕ
head_part version r = row head_table (head version r)

unfoldable pub sums_part : ℕ → DeviceRow → List ℕ
sums_part version r = row (sums_table version) (sums r)

abbrev pub request_part : ℕ → DeviceRow → List ℕ
request_part version r = message_part version (request_size version) r.request

abbrev pub reply_part : ℕ → DeviceRow → List ℕ
reply_part version r = message_part version (reply_size version) r.reply

abbrev pub end_part : ℕ → List ℕ
end_part version = replicate (end_size version) 0

-- the one spelling of a device's row in a version
unfoldable pub device_spelled : ℕ → DeviceRow → List ℕ
device_spelled version r =
    head_part version r ++ (r.key ++ (sums_part version r ++ (request_part version r ++ (reply_part version r ++ end_part version))))

-- the spelling that is written
abbrev pub device_bytes : DeviceRow → List ℕ
device_bytes r = device_spelled 2 r

-- the numbers of a row fit their fields in a version
pub record DeviceFits (version : ℕ) (r : DeviceRow) : Type 0 where
  pub head : Fit head_table (head version r)
  pub key : length r.key ≡ 32
  pub sums : Fit (sums_table version) (sums r)

-- what version 1 can spell: sums of four bytes (returns are at most buys), and messages of version 1, by their first byte
pub record IsOld (r : DeviceRow) : Type 0 where
  pub buys : r.buys < 2 ^ 32
  pub request : 1 ≤ r.ruled → get_or r.request 0 0 ≡ 1

-- THE PAYLOAD READS AS THE DEVICE'S ROW: it is a spelling of it, in version 2 or in version 1
pub record DeviceReadsAs (payload : List ℕ) (r : DeviceRow) : Type 0 where
  pub sound : IsSoundDevice r
  pub fits : DeviceFits 2 r
  pub reads : (device_bytes r ≡ payload) ⊎ (IsOld r × (device_spelled 1 r ≡ payload))

-- == the layout of a customer's row ==

abbrev pub flag : Bool → ℕ
flag b = if b then 1 else 0

-- customer, suspended, deposits, last receipt, last amount
abbrev pub customer_table : List Size
customer_table = Four ∷ One ∷ Eight ∷ Four ∷ Four ∷ []

abbrev pub customer_values : CustomerRow → List ℕ
customer_values r = r.customer ∷ flag r.suspended ∷ r.deposits ∷ r.receipt ∷ r.amount ∷ []

unfoldable pub customer_part : CustomerRow → List ℕ
customer_part r = row customer_table (customer_values r)

-- the one spelling of a customer's row
unfoldable pub customer_bytes : CustomerRow → List ℕ
customer_bytes r = customer_part r ++ replicate 171 0

-- THE PAYLOAD READS AS THE CUSTOMER'S ROW: it is its spelling
pub record CustomerReadsAs (payload : List ℕ) (r : CustomerRow) : Type 0 where
  pub sound : IsSoundCustomer r
  pub fits : Fit customer_table (customer_values r)
  pub reads : customer_bytes r ≡ payload

-- == either row ==

abbrev pub RowReadsAs : Row → List ℕ → Type 0
RowReadsAs (Device r) payload = DeviceReadsAs payload r
RowReadsAs (Customer r) payload = CustomerReadsAs payload r

-- the spelling that is written
abbrev pub row_bytes : Row → List ℕ
row_bytes (Device r) = device_bytes r
row_bytes (Customer r) = customer_bytes r
