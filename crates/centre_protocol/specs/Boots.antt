-- What a boot of the centre finds in its cells.
use Rattle.std.specs.Prelude.{ℕ, ◌+◌, ◌<◌, ◌≤◌, List, get_or, Option, None, IfSome, option_map}
use Rattle.bench_base.specs.declared.sizes.TheConstants.{MOST_COMMITS}
use Rattle.nv_store.specs.Slot.{Held}
use Rattle.nv_store.specs.Store.{count_of}
use Rattle.row_node.specs.Kept.{IsFilled}
use Rattle.centre_ledger.specs.declared.{rows.DeviceRow.DeviceRow, rows.CustomerRow.CustomerRow}
use Rattle.centre_ledger.specs.declared.rows.Row.TheVariants as row
use Rattle.centre_ledger.specs.Books.{IsDeviceOf, IsCustomerAt}
use Rattle.centre_protocol.specs.Payloads.{IsPayloadOf}

-- cell k holds the row of device k + 1, or nothing
pub record DeviceRead (held : ℕ → Option Held) (k : ℕ) (o : Option DeviceRow) : Type 0 where
  pub filled : IsFilled (IsPayloadOf k) (option_map row.Device o) (held k)
  pub own : IfSome o (IsDeviceOf (k + 1))
  pub few : count_of (held k) ≤ MOST_COMMITS

-- so the first cells
abbrev pub DevicesRead : (ℕ → Option Held) → ℕ → List (Option DeviceRow) → Type 0
DevicesRead held n rows = (k : ℕ) → k < n → DeviceRead held k (get_or rows k None)

-- cell i + 8 holds the row of customer i + 1, or nothing
pub record CustomerRead (held : ℕ → Option Held) (i : ℕ) (o : Option CustomerRow) : Type 0 where
  pub filled : IsFilled (IsPayloadOf (8 + i)) (option_map row.Customer o) (held (8 + i))
  pub own : IfSome o (IsCustomerAt (i + 1))
  pub few : count_of (held (8 + i)) ≤ MOST_COMMITS

abbrev pub CustomersRead : (ℕ → Option Held) → ℕ → List (Option CustomerRow) → Type 0
CustomersRead held n rows = (i : ℕ) → i < n → CustomerRead held i (get_or rows i None)
