use Rattle.std.proofs.Common.{◌+◌, ◌≤◌, length, arith}
use Rattle.text_streams.proofs.Streams.{put_more}
use Rattle.text_streams.proofs.writing.put_text.Goals as goal

pub loop-at-preserved : goal.loop-at-preserved
loop-at-preserved g c =
    let fits : c.loop-at.at + c.in-Ok.count ≤ length c.args.text.now = omega (arith, c.in-Ok.ensures.bound) in
    record {
      inside = fits;
      written = put_more _ _ _ c.args.text.now c.loop-at.at c.in-Ok.count fits c.loop-at.invariant.written c.in-Ok.ensures.bytes;
      later = omega (arith, c.in-Ok.ensures.cause.later, c.loop-at.invariant.later);
    }
