use Rattle.std.proofs.Common.{sym, subst}
use Rattle.centre_ledger.specs.Books.{Books}
use Rattle.centre_protocol.specs.Payloads.{HoldRows}
use Rattle.centre_protocol.specs.Cells.{row_in, none_hold}
use Rattle.centre_protocol.proofs.rows.CentreRowsRows.clear.Goals as goal

pub returns : goal.returns
returns c held none = record { filled = subst (λ (b : Books). HoldRows (row_in b) held) (sym c.empty-self.ensures.value) (none_hold held none); follows = tt }
