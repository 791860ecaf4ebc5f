-- How rows are distinguished by their payloads.
use Rattle.std.specs.Prelude.{◌≡◌, ℕ, List, length}
use Rattle.bench_base.specs.Table.{Fit}
use Rattle.centre_ledger.specs.declared.{rows.DeviceRow.DeviceRow, rows.CustomerRow.CustomerRow, rows.Row.Row}
use Rattle.centre_ledger.specs.Soundness.{IsSoundDevice, IsSoundCustomer}
use Rattle.centre_ledger.specs.Payload.{device_bytes, DeviceFits, DeviceReadsAs, customer_table, customer_values, customer_bytes, CustomerReadsAs, RowReadsAs}

-- a payload reads as one device's row at most, whatever its version
abbrev pub OneDevice : Type 0
OneDevice = (payload : List ℕ) (r s : DeviceRow) → DeviceReadsAs payload r → DeviceReadsAs payload s → r ≡ s

-- and as one customer's
abbrev pub OneCustomer : Type 0
OneCustomer = (payload : List ℕ) (r s : CustomerRow) → CustomerReadsAs payload r → CustomerReadsAs payload s → r ≡ s

-- what is written reads as the row
abbrev pub DeviceWritten : Type 0
DeviceWritten = (r : DeviceRow) → IsSoundDevice r → DeviceFits 2 r → DeviceReadsAs (device_bytes r) r

abbrev pub CustomerWritten : Type 0
CustomerWritten = (r : CustomerRow) → IsSoundCustomer r → Fit customer_table (customer_values r) → CustomerReadsAs (customer_bytes r) r

-- what reads as a row has 192 bytes
abbrev pub OneLength : Type 0
OneLength = (x : Row) (payload : List ℕ) → RowReadsAs x payload → length payload ≡ 192

pub record PayloadLaws : Type 0 where
  pub one_device : OneDevice
  pub one_customer : OneCustomer
  pub device_written : DeviceWritten
  pub customer_written : CustomerWritten
  pub length : OneLength
