use Rattle.std.proofs.Common.{◌∙◌, arith}
use Rattle.verifier.proofs.Laid.{read_trust, other_device}
use Rattle.verifier.proofs.payload.read_trust.Goals as goal

pub returns-then-u32_at-get : goal.returns-then-u32_at-get
returns-then-u32_at-get c = read_trust c.args.device c.args.payload.now c.u32_at.result c.is_zero.result c.told-payload c.fits-payload c.u32_at.ensures (c.if-u32_at-get.true ∙ c.get.ensures.value) (omega arith) c.is_zero.ensures

pub returns-else-u32_at-get : goal.returns-else-u32_at-get
returns-else-u32_at-get c = other_device c.args.device c.args.payload.now c.u32_at.result c.get.result c.u32_at.ensures c.get.ensures.value c.if-u32_at-get.false
