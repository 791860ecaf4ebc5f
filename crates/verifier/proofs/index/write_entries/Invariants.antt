use Rattle.std.proofs.Common.{◌≡◌, ℕ, ◌+◌, ◌<◌, length, get_or}
use Rattle.bench_base.specs.declared.sizes.TheConstants.{FIRST_BLOCK, MOST_BLOCKS}
use Rattle.verifier.specs.Index.{IsEntryOf, nothing}
use Rattle.verifier.proofs.index.write_entries.Given as goal

abbrev pub invariant-loop-cell : goal.invariant-loop-cell
invariant-loop-cell g l = record {
  size : length l.entries ≡ MOST_BLOCKS;
  written : (i : ℕ) → FIRST_BLOCK + i < l.cell → IsEntryOf (goal.F-post g l.block_of) (FIRST_BLOCK + i) (get_or l.entries i nothing);
}
