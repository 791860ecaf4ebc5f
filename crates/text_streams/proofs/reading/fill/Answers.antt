use Rattle.std.proofs.Common.{arith}
use Rattle.text_streams.proofs.Streams.{take_more}
use Rattle.text_streams.proofs.reading.fill.Goals as goal

pub loop-count-preserved : goal.loop-count-preserved
loop-count-preserved g c =
    record {
      inside = omega (arith, c.in-Ok.ensures.bound, c.read.auto.buf, c.loop-count.invariant.inside, c.loop-count-test.true);
      long = omega (arith, c.read.auto.buf, c.loop-count.invariant.inside, c.loop-count.invariant.long, c.loop-count-test.true);
      taken = take_more _ _ _ c.loop-count.buffer c.read.new.buf c.loop-count.count _ c.in-Ok.more c.loop-count.invariant.inside (omega (arith, c.in-Ok.ensures.bound))
          c.loop-count.invariant.taken c.in-Ok.ensures.bytes.0;
      later = omega (arith, c.in-Ok.ensures.cause.later, c.loop-count.invariant.later);
    }
