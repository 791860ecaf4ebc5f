-- Payloads determine their rows.
use Rattle.std.specs.Prelude.{◌≡◌, ℕ, List, length}
use Rattle.bench_base.specs.declared.sizes.TheConstants.{BLOCK_BYTES}
use Rattle.verifier.specs.Rows.{Row, IsSoundRow}
use Rattle.verifier.specs.Payload.{RowReadsAs, IsPayloadOf, row_bytes, row_of}

-- what the payload of a cell reads as, if it reads as a row of that cell: so it reads as one row at most
abbrev pub OneRow : Type 0
OneRow = (k : ℕ) (x : Row) (payload : List ℕ) → IsPayloadOf k x payload → row_of k payload ≡ x

-- what is written reads as the row
abbrev pub RowWritten : Type 0
RowWritten = (x : Row) → IsSoundRow x → RowReadsAs x (row_bytes x)

-- what reads as a row has 2,056 bytes
abbrev pub OneLength : Type 0
OneLength = (x : Row) (payload : List ℕ) → RowReadsAs x payload → length payload ≡ BLOCK_BYTES

pub record PayloadLaws : Type 0 where
  pub one_row : OneRow
  pub written : RowWritten
  pub length : OneLength
