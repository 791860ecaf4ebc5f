-- The rows of the centre all together: what each place has, what each customer has left, and when they are sound. Amounts
-- are in mills.
use Rattle.std.specs.Prelude.{◌≡◌, ℕ, ◌+◌, ◌-◌, ◌≤◌, All, List, length, map, get_or, set, replicate, Option, Some, None, IfSome, IsSome, ◌==◌, sum_by, if◌then◌else◌}
use Rattle.bench_base.specs.Ranges.{IsWord}
use Rattle.centre_ledger.specs.declared.{rows.DeviceRow.DeviceRow, rows.CustomerRow.CustomerRow, rows.Row.Row, rows.Row.TheVariants.Device, rows.Row.TheVariants.Customer}
use Rattle.centre_ledger.specs.Rows.{enrolled_in, buys_in, returns_in}
use Rattle.centre_ledger.specs.Soundness.{IsSoundDevice, IsSoundCustomer}

-- a place for each device and each customer, in the order of their numbers, with its row where there is one
pub record Books : Type 0 where
  pub devices : List (Option DeviceRow)
  pub customers : List (Option CustomerRow)

-- the places are counted from 1; beyond them there is nothing
abbrev pub place_of : {R : Type 0} → List (Option R) → ℕ → Option R
place_of rows n = if n == 0 then None else get_or rows (n - 1) None

abbrev pub device_at : Books → ℕ → Option DeviceRow
device_at b d = place_of b.devices d

abbrev pub customer_at : Books → ℕ → Option CustomerRow
customer_at b w = place_of b.customers w

-- before anything is registered or opened
abbrev pub no_rows : Books
no_rows = record { devices = replicate 8 None; customers = replicate 64 None }

-- the row in its place, instead of what was there
abbrev pub put_row : Books → Row → Books
put_row b (Device r) = record b { devices = set b.devices (r.device - 1) (Some r) }
put_row b (Customer r) = record b { customers = set b.customers (r.customer - 1) (Some r) }

-- == balances ==

-- deposits less buys plus returns; 0 where there is no such customer
abbrev pub left_of : List (Option DeviceRow) → Option CustomerRow → ℕ
left_of devices None = 0
left_of devices (Some r) = (r.deposits + sum_by (returns_in r.customer) devices) - sum_by (buys_in r.customer) devices

-- what the customer has left by the rows
abbrev pub left_in : Books → ℕ → ℕ
left_in b w = left_of b.devices (customer_at b w)

-- the same of each place of a customer
abbrev pub balances_by : List (Option DeviceRow) → List (Option CustomerRow) → List ℕ
balances_by devices customers = map (left_of devices) customers

-- what is kept of the customer, by its place
abbrev pub kept_at : List ℕ → ℕ → ℕ
kept_at balances w = get_or balances (w - 1) 0

-- what was deposited by the customer in a place
abbrev pub deposits_in : Option CustomerRow → ℕ
deposits_in None = 0
deposits_in (Some r) = r.deposits

-- what the device in a place bought for the customer and did not give back
abbrev pub spent_in : ℕ → Option DeviceRow → ℕ
spent_in w o = buys_in w o - returns_in w o

-- the customer's devices bought no more than what it deposited and they gave back
abbrev pub IsCovered : List (Option DeviceRow) → CustomerRow → Type 0
IsCovered devices r = sum_by (buys_in r.customer) devices ≤ r.deposits + sum_by (returns_in r.customer) devices

-- == when the rows are sound ==

-- the row of device d
pub record IsDeviceOf (d : ℕ) (r : DeviceRow) : Type 0 where
  pub device : r.device ≡ d
  pub origin : IsWord r.origin
  pub sound : IsSoundDevice r

pub record IsCustomerAt (w : ℕ) (r : CustomerRow) : Type 0 where
  pub customer : r.customer ≡ w
  pub sound : IsSoundCustomer r

-- there is a place for each, and each row is sound and in its own
pub record ArePlaced (b : Books) : Type 0 where
  pub device_count : length b.devices ≡ 8
  pub customer_count : length b.customers ≡ 64
  pub devices : (d : ℕ) → IfSome (device_at b d) (IsDeviceOf d)
  pub customers : (w : ℕ) → IfSome (customer_at b w) (IsCustomerAt w)

-- the customer of a device that was ever enrolled is open
abbrev pub IsOwned : List (Option CustomerRow) → DeviceRow → Type 0
IsOwned customers r = IfSome (enrolled_in r) (λ w. IsSome (place_of customers w))

-- the rows agree
pub record AreJoined (b : Books) : Type 0 where
  pub owned : All (λ o. IfSome o (IsOwned b.customers)) b.devices
  pub covered : All (λ o. IfSome o (IsCovered b.devices)) b.customers

pub record AreSound (b : Books) : Type 0 where
  pub placed : ArePlaced b
  pub joined : AreJoined b

-- the rows are sound, and the balances that are kept are those by the rows
pub record IsDerived (b : Books) (balances : List ℕ) : Type 0 where
  pub sound : AreSound b
  pub kept : balances ≡ balances_by b.devices b.customers
