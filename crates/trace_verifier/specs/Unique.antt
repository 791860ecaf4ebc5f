-- There is at most one proof that a record is sound and has its index.
use Rattle.std.proofs.Common.{ℕ, List, Option, None, Some}
use Rattle.std.specs.Prelude.{IfSome}
use Rattle.std.proofs.Props.{props}
use Rattle.verifier.specs.declared.index.Entry.{Entry}
use Rattle.verifier.specs.Rows.{Row, TrustRow, BlockRow}
use Rattle.verifier.specs.Seen.{Seen, row_in, IsRowAt, AreSound}
use Rattle.trace_verifier.specs.Records.{AreIndexed}

row_prop : (k : ℕ) (x : Row) → IsProp (IsRowAt k x)
row_prop k (TrustRow d key) = hlevel props
row_prop k (BlockRow d b scans) = hlevel props

each_prop : (k : ℕ) (o : Option Row) → IsProp (IfSome o (IsRowAt k))
each_prop k None = hlevel props
each_prop k (Some x) = row_prop k x

sound_prop : (s : Seen) → IsProp (AreSound s)
sound_prop s =
    let each : (k : ℕ) → IsProp (IfSome (row_in s k) (IsRowAt k)) = λ k. each_prop k (row_in s k) in
    hlevel (each, props)

pub indexed_prop : (s : Seen) (es : List Entry) (total : ℕ) → IsProp (AreIndexed s es total)
indexed_prop s es total =
    let sound : IsProp (AreSound s) = sound_prop s in
    hlevel (sound, props)
