-- The centre, as the ledger shows it to the bench, and what a call of it does by that alone. Amounts are in mills.
use Rattle.std.specs.Prelude.{ℕ, ◌+◌, ◌-◌, List, Option, option_map, nat_lt, if◌then◌else◌}
use Rattle.bench_base.specs.declared.{words.Node.TheVariants.Centre, sizes.TheConstants.CENTRE_CELLS, ledger.Commit.Commit, events.Reply.Reply}
use Rattle.bench_base.specs.Cells.{Place, OfRow, OfCustomer}
use Rattle.bench_base.specs.Cells as cells
use Rattle.bench_base.specs.Table.{IsBytes}
use Rattle.node_acts.specs.declared.{act.Act.Act, asked.Asked.Asked, said.Said.Said}
use Rattle.node_acts.specs.Said.{kind_by}
use Rattle.node_acts.specs.Kinds.{Kind, OfCall}
use Rattle.node_acts.specs.RowList.{listed}
use Rattle.centre_ledger.specs.Books.{Books}
use Rattle.centre_ledger.specs.declared.rows.Row.{Row}
use Rattle.centre_ledger.specs.declared.rows.Row.TheVariants as row
use Rattle.centre_ledger.specs.Plans.{says, told_registered, told_opened, told_deposited, told_flagged, told_balance, told_taken}
use Rattle.centre_ledger.specs.Records.{device_row, customer_row}
use Rattle.centre_ledger.specs.Seen.{Seen, counting, books_in}
use Rattle.centre_ledger.specs.Acts as acts
use Rattle.bench_abstraction.specs.declared.calls.CentreCall.{CentreCall}
use Rattle.bench_abstraction.specs.declared.calls.CentreCall.TheVariants as call

-- == its record ==

-- what lies in a cell: the first eight are of devices 1 to 8, the others of customers 1 to 64
abbrev pub place_in : ℕ → Place
place_in k = if nat_lt k 8 then OfRow (k + 1) else OfCustomer (k - 7)

abbrev pub row_in : ℕ → List Commit → Option Row
row_in k C = if nat_lt k 8 then option_map row.Device (device_row (k + 1) C) else option_map row.Customer (customer_row (k - 7) C)

abbrev pub cell_after : ℕ → List Commit → Option (ℕ × Row)
cell_after k C = option_map (λ r. (cells.commits_at (place_in k) C, r)) (row_in k C)

abbrev pub seen_in : List Commit → Seen
seen_in C = listed CENTRE_CELLS (λ k. cell_after k C)

-- == its calls ==

abbrev pub centre_act : CentreCall → Books → Act Row Reply Said
centre_act (call.Register c) b = says (told_registered c.device) (acts.register_act c.device c.origin c.key b)
centre_act (call.Open c) b = says (told_opened c.customer) (acts.open_act c.customer b)
centre_act (call.Deposit c) b = says (told_deposited c.customer c.receipt) (acts.deposit_act c.customer c.receipt c.amount b)
centre_act (call.Flag c) b = says (told_flagged c.customer c.suspended) (acts.flag_act c.customer c.suspended b)
centre_act (call.Balance c) b = says (told_balance c.customer) (acts.balance_act c.customer b)
centre_act (call.Take c) b = says (told_taken c.message) (acts.take_act c.bytes b)

abbrev pub centre_kind : Kind (Unit {0}) Seen CentreCall
centre_kind = kind_by counting (λ u. Centre) (λ u. seen_in) (λ u today c s. centre_act c (books_in s))

-- what it is handed is a list of bytes
abbrev pub IsBytesCall : CentreCall → Type 0
IsBytesCall (call.Register c) = Unit {0}
IsBytesCall (call.Open c) = Unit {0}
IsBytesCall (call.Deposit c) = Unit {0}
IsBytesCall (call.Flag c) = Unit {0}
IsBytesCall (call.Balance c) = Unit {0}
IsBytesCall (call.Take c) = IsBytes c.bytes

abbrev pub AreBytes : Asked CentreCall → Type 0
AreBytes = OfCall IsBytesCall
