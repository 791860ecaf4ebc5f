use Rattle.std.proofs.Common.{◌∙◌, sym, true≢false}
use Rattle.verifier.proofs.Laid.{read_block, not_number, not_used}
use Rattle.verifier.proofs.payload.read_block.Goals as goal
use Rattle.verifier.proofs.payload.read_block.Goals.{then-number-gt-LAST_BLOCK-via-then-number-gt-LAST_BLOCK, then-number-gt-LAST_BLOCK-via-else-number-gt-LAST_BLOCK+then-is_zero}

pub returns-then-number-gt-LAST_BLOCK : goal.returns-then-number-gt-LAST_BLOCK
returns-then-number-gt-LAST_BLOCK c = elim c.then-number-gt-LAST_BLOCK.branch [
  | then-number-gt-LAST_BLOCK-via-then-number-gt-LAST_BLOCK w ↦ not_number c.args.payload.now c.u32_at-number.result c.u32_at-number.ensures w.if-number-gt-LAST_BLOCK.true
  | then-number-gt-LAST_BLOCK-via-else-number-gt-LAST_BLOCK+then-is_zero w ↦ not_used c.args.payload.now c.told-payload (w.is_zero.ensures.0 w.if-is_zero.true)
]

pub returns : goal.returns
returns c =
    read_block c.args.payload.now c.u32_at-device.result c.u32_at-number.result c.told-payload c.fits-payload c.u32_at-device.ensures c.u32_at-number.ensures c.if-number-gt-LAST_BLOCK.false
    (λ zeros. true≢false (sym (c.is_zero.ensures.1 zeros) ∙ c.if-is_zero.false))
