-- What is seen of the cells of the centre are the rows that it keeps.
use Rattle.std.proofs.Common.{◌≡◌, ℕ, Option, sym, ◌∙◌, ap}
use Rattle.nv_store.specs.Slot.{Held}
use Rattle.centre_ledger.specs.Seen.{books_in}
use Rattle.row_node.specs.Tables.{Filled, seen_of}
use Rattle.centre_protocol.specs.Cells.{books_kept}
use Rattle.centre_protocol.specs.Table.{centre_table}
use Rattle.centre_protocol.specs.declared.rows.CentreRows.{CentreRows}

-- so what is lent of them
pub books_lent : (lent m : CentreRows) (held : ℕ → Option Held) → lent ≡ m → Filled centre_table m held → lent.accounts ≡ books_in (seen_of centre_table m held)
books_lent lent m held same filled = ap (λ (k : CentreRows). k.accounts) same ∙ sym (books_kept m.accounts held m.places filled)
