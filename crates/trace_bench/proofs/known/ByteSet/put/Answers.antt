use Rattle.trace_bench.specs.Known.{is_among}
use Rattle.trace_bench.proofs.Sets.{put_last}
use Rattle.trace_bench.proofs.known.ByteSet.put.Goals as goal

pub returns : goal.returns
returns g c q = put_last g.K.AsBytes.bytes_of c.args.kept c.args.self.now.list.items c.push.new.self.items q (is_among (λ k. k.items) q c.args.self.now.set.keys) c.in_ok-push.ensures.items
