-- The 2,056 bytes of the verifier's rows.
use Rattle.std.specs.Prelude.{◌≡◌, ℕ, ◌+◌, ◌-◌, ◌*◌, List, [], ◌∷◌, ◌++◌, take, drop, replicate, Option, Some, None, nat_lt, if◌then◌else◌}
use Rattle.bench_base.specs.Table.{Four, spelled, number}
use Rattle.bench_base.specs.declared.sizes.TheConstants.{BLOCK_BYTES, FIRST_BLOCK, BLOCK_PIECES}
use Rattle.node_acts.specs.RowList.{listed}
use Rattle.verifier.specs.Rows.{Row, TrustRow, BlockRow, IsIn, IsSoundRow}

-- == the layout ==

-- numbers of four bytes, one after the other
abbrev pub words : List ℕ → List ℕ
words [] = []
words (n ∷ ns) = spelled Four n ++ words ns

-- device, key, and zeros to the end
unfoldable pub trust_bytes : ℕ → List ℕ → List ℕ
trust_bytes d key = spelled Four d ++ (key ++ replicate (BLOCK_BYTES - 36) 0)

-- device, number of the block, and the scan of each of its pieces
unfoldable pub block_bytes : ℕ → ℕ → List ℕ → List ℕ
block_bytes d b scans = words (d ∷ b ∷ scans)

-- the one spelling of a row
abbrev pub row_bytes : Row → List ℕ
row_bytes (TrustRow d key) = trust_bytes d key
row_bytes (BlockRow d b scans) = block_bytes d b scans

-- THE PAYLOAD READS AS THE ROW: the row meets its conditions, and the payload is its spelling
pub record RowReadsAs (x : Row) (payload : List ℕ) : Type 0 where
  pub sound : IsSoundRow x
  pub reads : row_bytes x ≡ payload

-- the payload of cell k reads as this row
pub record IsPayloadOf (k : ℕ) (x : Row) (payload : List ℕ) : Type 0 where
  pub place : IsIn k x
  pub row : RowReadsAs x payload

-- == what a payload holds ==

-- the i-th number of four bytes
unfoldable pub word_at : ℕ → List ℕ → ℕ
word_at i bytes = number Four (take 4 (drop (4 * i) bytes))

-- the scan of each piece of a block, by its place
abbrev pub scans_of : List ℕ → List ℕ
scans_of payload = listed BLOCK_PIECES (λ j. word_at (2 + j) payload)

-- no piece is accepted
unfoldable pub no_scans : List ℕ
no_scans = replicate BLOCK_PIECES 0

-- those of a block by its payload, where it has one
abbrev pub scans_before : Option (List ℕ) → List ℕ
scans_before None = no_scans
scans_before (Some payload) = scans_of payload

abbrev pub key_of : List ℕ → List ℕ
key_of payload = take 32 (drop 4 payload)

-- the row that the payload of cell k reads as, if it reads as one
abbrev pub row_of : ℕ → List ℕ → Row
row_of k payload =
    if nat_lt k FIRST_BLOCK
    then TrustRow (word_at 0 payload) (key_of payload)
    else BlockRow (word_at 0 payload) (word_at 1 payload) (scans_of payload)
