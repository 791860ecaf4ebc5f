-- The record of the centre, as the bench sees the centre.
use Rattle.std.specs.Prelude.{◌≡◌, ℕ, ◌+◌, ◌-◌, ◌<◌, ◌≤◌, length, IfSome}
use Rattle.bench_base.specs.declared.sizes.TheConstants.{MOST_COMMITS, CENTRE_CELLS}
use Rattle.bench_base.specs.Ranges.{IsDevice, IsCustomer, IsWord}
use Rattle.bench_base.specs.Table.{IsBytes}
use Rattle.node_acts.specs.declared.asked.Asked.{Asked}
use Rattle.node_acts.specs.RowList.{RowList, row_at, row_of, commits_at, commits_in}
use Rattle.node_acts.specs.Kinds.{OfCall}
use Rattle.centre_ledger.specs.declared.rows.Row.{Row}
use Rattle.centre_ledger.specs.declared.rows.Row.TheVariants as row
use Rattle.centre_ledger.specs.Books.{Books, AreSound, IsDeviceOf, IsCustomerAt, put_row}
use Rattle.centre_ledger.specs.Seen.{Seen, books_in}
use Rattle.centre_protocol.specs.Cells.{HasCell}
use Rattle.centre_protocol.specs.Payloads.{IsIn}
use Rattle.bench_abstraction.specs.declared.calls.CentreCall.{CentreCall}
use Rattle.bench_abstraction.specs.declared.calls.CentreCall.TheVariants as call

-- the books are those of the cells, which are counted; each row lies in its own cell
pub record AreKept (cells : RowList Row) (books : Books) (total : ℕ) : Type 0 where
  pub long : length cells ≡ CENTRE_CELLS
  pub books_are : books ≡ books_in cells
  pub total_is : total ≡ commits_in cells
  pub few : (k : ℕ) → commits_at (row_at cells k) ≤ MOST_COMMITS
  pub placed : (k : ℕ) → IfSome (row_of (row_at cells k)) (IsIn k)

-- the row lies in its own cell k, and is sound
abbrev pub IsRowOf : ℕ → Row → Type 0
IsRowOf k (row.Device r) = IsDeviceOf (k + 1) r × (k < 8)
IsRowOf k (row.Customer r) = IsCustomerAt (k - 7) r × (8 ≤ k)

-- the row has a cell, and the rows are sound with it in its place
pub record IsFit (s : Seen) (x : Row) : Type 0 where
  pub has : HasCell x
  pub sound : AreSound (put_row (books_in s) x)

-- the numbers of a call, as an event contains them
abbrev pub IsRanged : CentreCall → Type 0
IsRanged (call.Register c) = IsDevice c.device × IsWord c.origin
IsRanged (call.Open c) = IsCustomer c.customer
IsRanged (call.Deposit c) = IsCustomer c.customer
IsRanged (call.Flag c) = IsCustomer c.customer
IsRanged (call.Balance c) = IsCustomer c.customer
IsRanged (call.Take c) = IsBytes c.bytes

abbrev pub IsRangedAsked : Asked CentreCall → Type 0
IsRangedAsked = OfCall IsRanged
