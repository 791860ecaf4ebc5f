use Rattle.bench_base.specs.Padded.{padded_front}
use Rattle.bench_base.proofs.bytes.Note.of.Goals as goal

pub invariant_of-result : goal.invariant_of-result
invariant_of-result c = padded_front 87 c.args.bytes.now _ c.requires c.copy_from_slice.ensures.after
