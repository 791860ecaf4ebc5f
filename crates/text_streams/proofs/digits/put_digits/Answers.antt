use Rattle.std.proofs.Common.{◌≡◌, ◌*◌, ◌∙◌, arith, length}
use Rattle.std.proofs.lemmas.List.{length-set}
use Rattle.hex.specs.Hex.{lower_digits}
use Rattle.hex.proofs.Pairs.{encode_step, encode_done}
use Rattle.text_streams.proofs.digits.put_digits.Goals as goal

pub loop-at-preserved : goal.loop-at-preserved
loop-at-preserved c =
    let long : length c.loop-at.digits ≡ 2 * length c.args.bytes.now = c.loop-at.invariant.1 in (
      encode_step lower_digits c.args.bytes.now c.loop-at.digits c.loop-at.at _ _ (omega arith) (omega (arith, long)) c.digit.ensures c.digit-in-loop-at.ensures c.loop-at.invariant.0,
      length-set _ _ _ ∙ length-set _ _ _ ∙ long,
    )

pub returns : goal.returns
returns c = encode_done lower_digits c.args.bytes.now c.loop-at.digits c.loop-at.at (omega arith) c.loop-at.invariant.1 c.loop-at.invariant.0
