-- The record of the verifier, as the bench sees the verifier.
use Rattle.std.specs.Prelude.{◌≡◌, ℕ, ◌≤◌, ◌<◌, List, Option, set}
use Rattle.bench_base.specs.declared.sizes.TheConstants.{MOST_COMMITS, BLOCK_PIECES}
use Rattle.bench_base.specs.Ranges.{IsCount, IsDevice, IsKey}
use Rattle.bench_base.specs.Table.{IsBytes}
use Rattle.node_acts.specs.declared.asked.Asked.{Asked}
use Rattle.node_acts.specs.RowList.{row_at, commits_at, commits_in}
use Rattle.node_acts.specs.Kinds.{OfCall}
use Rattle.verifier.specs.declared.{acts.Change.Change, index.Entry.Entry}
use Rattle.verifier.specs.declared.acts.Change.TheVariants as change
use Rattle.verifier.specs.Index.{IsIndexOf}
use Rattle.verifier.specs.Rows.{Row, TrustRow, BlockRow}
use Rattle.verifier.specs.Seen.{Seen, AreSound, scans_in}
use Rattle.bench_abstraction.specs.declared.calls.VerifierCall.{VerifierCall}
use Rattle.bench_abstraction.specs.declared.calls.VerifierCall.TheVariants as call

-- the rows are sound and counted, and the index is theirs
pub record AreIndexed (s : Seen) (es : List Entry) (total : ℕ) : Type 0 where
  pub sound : AreSound s
  pub indexed : IsIndexOf es s
  pub total_is : total ≡ commits_in s
  pub few : (k : ℕ) → commits_at (row_at s k) ≤ MOST_COMMITS

-- the place of a piece is one of its block
abbrev pub IsPlaced : Change → Type 0
IsPlaced (change.Trust d key) = Unit {0}
IsPlaced (change.Accept cell d b place n) = place < BLOCK_PIECES

-- the row that a change leaves in a cell, by the row before
abbrev pub row_by : Option Row → Change → Row
row_by before (change.Trust d key) = TrustRow d key
row_by before (change.Accept cell d b place n) = BlockRow d b (set (scans_in before) place n)

-- the numbers of a call, as an event contains them
abbrev pub IsRanged : VerifierCall → Type 0
IsRanged (call.Trust c) = IsDevice c.device × IsKey c.key
IsRanged (call.Scan c) = IsCount c.number × IsBytes c.bytes

abbrev pub IsRangedAsked : Asked VerifierCall → Type 0
IsRangedAsked = OfCall IsRanged
