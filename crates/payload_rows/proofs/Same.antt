-- What is the same if its parts are.
use Rattle.std.proofs.Common.{◌≡◌, ℕ, ◌+◌, ◌-◌, ◌<◌, List, get_or, length, sym, ◌∙◌, ap, refl, arith}
use Rattle.std.proofs.lemmas.List.{ext_get_or}
use Rattle.bench_base.specs.declared.sizes.TheConstants.{BLOCK_PIECES}
use Rattle.bench_base.specs.Ranges.{IsDevice}
use Rattle.node_acts.specs.RowLaws.{listed_long}
use Rattle.verifier.specs.Rows.{Row, TrustRow, BlockRow}
use Rattle.verifier.specs.Payload.{RowReadsAs, IsPayloadOf, scans_of, word_at}
use Rattle.verifier.proofs.Laid.{payload_laws}

pub scans_same : (payload scans : List ℕ) → length scans ≡ BLOCK_PIECES → ((j : ℕ) → j < BLOCK_PIECES → get_or (scans_of payload) j 0 ≡ get_or scans j 0)
    → scans_of payload ≡ scans
scans_same payload scans long same =
    ext_get_or 0 (scans_of payload) scans (listed_long BLOCK_PIECES (λ j. word_at (2 + j) payload) ∙ sym long)
    (λ j lt. same j (omega (arith, lt, listed_long BLOCK_PIECES (λ i. word_at (2 + i) payload))))

first_key : (d e : ℕ) (key other : List ℕ) → TrustRow d key ≡ TrustRow e other → key ≡ other
first_key d e key other is = cc is

pub one_key : (d : ℕ) (key other payload : List ℕ) → IsDevice d → RowReadsAs (TrustRow d key) payload → RowReadsAs (TrustRow d other) payload → key ≡ other
one_key d key other payload device a b =
    first_key d d key other (sym (payload_laws.one_row (d - 1) (TrustRow d key) payload (lies key a)) ∙ payload_laws.one_row (d - 1) (TrustRow d other) payload (lies other b))
  where
    lies : (k : List ℕ) → RowReadsAs (TrustRow d k) payload → IsPayloadOf (d - 1) (TrustRow d k) payload
    lies k reads = record { place = (omega (arith, device), omega (arith, device)); row = reads }

abbrev block_of : Row → ℕ × ℕ
block_of (TrustRow d key) = (d, 0)
block_of (BlockRow d b scans) = (d, b)

abbrev scans_in : Row → List ℕ
scans_in (TrustRow d key) = key
scans_in (BlockRow d b scans) = scans

one_block : (d b e c : ℕ) (scans other payload : List ℕ) → RowReadsAs (BlockRow d b scans) payload → RowReadsAs (BlockRow e c other) payload
    → BlockRow d b scans ≡ BlockRow e c other
one_block d b e c scans other payload x y =
    sym (payload_laws.one_row 8 (BlockRow d b scans) payload (record { place = omega arith; row = x }))
    ∙ payload_laws.one_row 8 (BlockRow e c other) payload (record { place = omega arith; row = y })

pub one_number : (found : ℕ × ℕ) (e c : ℕ) (scans other payload : List ℕ) → RowReadsAs (BlockRow found.0 found.1 scans) payload → RowReadsAs (BlockRow e c other) payload
    → found ≡ (e, c)
one_number found e c scans other payload x y = ap block_of (one_block found.0 found.1 e c scans other payload x y)

pub one_scans : (d b e c : ℕ) (scans other payload : List ℕ) → RowReadsAs (BlockRow d b scans) payload → RowReadsAs (BlockRow e c other) payload → scans ≡ other
one_scans d b e c scans other payload x y = ap scans_in (one_block d b e c scans other payload x y)
