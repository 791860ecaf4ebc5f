-- The rows of the centre as its storage can show them.
use Rattle.std.specs.Prelude.{ℕ, IfSome}
use Rattle.node_acts.specs.RowList.{row_at, row_of}
use Rattle.centre_ledger.specs.declared.rows.Row.{Row}
use Rattle.centre_ledger.specs.Books.{AreSound, put_row}
use Rattle.centre_ledger.specs.Seen.{Seen, books_in, IsKnown}
use Rattle.centre_protocol.specs.Payloads.{IsIn}

-- storage can show them, and each row lies in its own cell
pub record IsSound (s : Seen) : Type 0 where
  pub known : IsKnown s
  pub placed : (k : ℕ) → IfSome (row_of (row_at s k)) (IsIn k)

-- the rows are sound with this one in its place
abbrev pub IsFit : Seen → Row → Type 0
IsFit s x = AreSound (put_row (books_in s) x)
