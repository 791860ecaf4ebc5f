use Rattle.bench_base.specs.Padded.{padded_front}
use Rattle.bench_base.proofs.bytes.Given.new.Goals as goal

pub invariant_of-result : goal.invariant_of-result
invariant_of-result c = padded_front 256 c.args.bytes.now _ c.if-bytes-gt256.false c.copy_from_slice.ensures.after
