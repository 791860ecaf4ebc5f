-- There is at most one proof that the centre's cells are kept.
use Rattle.std.proofs.Common.{ℕ, Option, None, Some}
use Rattle.std.specs.Prelude.{IfSome}
use Rattle.std.proofs.Props.{props}
use Rattle.node_acts.specs.RowList.{RowList, row_at, row_of}
use Rattle.centre_ledger.specs.declared.rows.Row.{Row}
use Rattle.centre_ledger.specs.declared.rows.Row.TheVariants as row
use Rattle.centre_ledger.specs.Books.{Books}
use Rattle.centre_protocol.specs.Payloads.{IsIn}
use Rattle.trace_centre.specs.Records.{AreKept}

in_prop : (k : ℕ) (x : Row) → IsProp (IsIn k x)
in_prop k (row.Device r) = hlevel props
in_prop k (row.Customer r) = hlevel props

each_prop : (k : ℕ) (o : Option Row) → IsProp (IfSome o (IsIn k))
each_prop k None = hlevel props
each_prop k (Some x) = in_prop k x

pub kept_prop : (s : RowList Row) (b : Books) (total : ℕ) → IsProp (AreKept s b total)
kept_prop s b total =
    let each : (k : ℕ) → IsProp (IfSome (row_of (row_at s k)) (IsIn k)) = λ k. each_prop k (row_of (row_at s k)) in
    hlevel (each, props)
