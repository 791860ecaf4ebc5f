use Rattle.std.proofs.Common.{◌≡◌, ◌≤◌, ◌++◌, ℕ, List, length, drop, replicate}
use Rattle.std.proofs.lemmas.List.{drop-replicate}
use Rattle.std.proofs.lemmas.Bool.{le-ltb}
use Rattle.hmac_core.specs.Hmac.{block_key}
use Rattle.hmac_core.proofs.key_block.Goals as goal

filled : (key block : List ℕ) → length key ≤ 64 → block ≡ key → block ++ drop (length key) (replicate 64 0) ≡ block_key key
filled key block short same =
    rw (drop-replicate {X = ℕ} (length key) 64 0, same, le-ltb 64 (length key) short)

pub returns-else-key-gt-BLOCK : goal.returns-else-key-gt-BLOCK
returns-else-key-gt-BLOCK c = filled c.args.key.now _ c.if-key-gt-BLOCK.false c.copy_from_slice-else-key-gt-BLOCK.ensures.after
