-- What is seen of the centre: of each of its 72 cells nothing, or how many commits it has and its row. Cell d - 1 is device d, and cell
-- 7 + w customer w.
use Rattle.std.specs.Prelude.{◌≡◌, ℕ, ◌+◌, ◌-◌, ◌≤◌, length, Option, Some, None}
use Rattle.bench_base.specs.declared.sizes.TheConstants.{MOST_COMMITS, CENTRE_CELLS}
use Rattle.node_acts.specs.Views.{Counting}
use Rattle.node_acts.specs.RowList.{RowList, row_at, commits_at, counting_by, listed}
use Rattle.centre_ledger.specs.declared.{rows.DeviceRow.DeviceRow, rows.CustomerRow.CustomerRow, rows.Row.Row}
use Rattle.centre_ledger.specs.declared.rows.Row.TheVariants as row
use Rattle.centre_ledger.specs.Books.{Books, AreSound}

abbrev pub Seen : Type 0
Seen = RowList Row

abbrev pub cell_of : Row → ℕ
cell_of (row.Device r) = r.device - 1
cell_of (row.Customer r) = 7 + r.customer

abbrev pub counting : Counting Seen Row
counting = counting_by cell_of (λ r. r)

abbrev pub device_in : Option (ℕ × Row) → Option DeviceRow
device_in None = None
device_in (Some (k, row.Device r)) = Some r
device_in (Some (k, row.Customer r)) = None

abbrev pub customer_in : Option (ℕ × Row) → Option CustomerRow
customer_in None = None
customer_in (Some (k, row.Device r)) = None
customer_in (Some (k, row.Customer r)) = Some r

-- the rows, without their counts
abbrev pub books_in : Seen → Books
books_in s = record {
  devices = listed 8 (λ i. device_in (row_at s i));
  customers = listed 64 (λ i. customer_in (row_at s (8 + i)));
}

-- a record that storage can show: of so many cells, none with more commits than it can count, and rows that are sound, also together
pub record IsKnown (s : Seen) : Type 0 where
  pub long : length s ≡ CENTRE_CELLS
  pub few : (k : ℕ) → commits_at (row_at s k) ≤ MOST_COMMITS
  pub sound : AreSound (books_in s)
