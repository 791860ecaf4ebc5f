use Rattle.host_jobs.specs.Acts.{order_act}
use Rattle.host_jobs.proofs.SoundActs.{leaves}
use Rattle.call_handlers.proofs.Changed.{put_made, kept_of}
use Rattle.call_handlers.proofs.host_calls.OrderCallCallHostCalleeJobRow.act.Goals as goal

pub order_act-requires : goal.order_act-requires
order_act-requires g c = kept_of c.jobs.ensures c.kept.ensures

pub returns-clause-makes : goal.returns-clause-makes
returns-clause-makes g c asked =
    let q = c.args.self.now in
    put_made c.jobs.ensures c.kept.ensures (order_act q.device q.piece q.class q.price c.jobs.result.now) c.order_act.ensures (λ sound. (leaves c.jobs.result.now sound).ordered q.device q.piece q.class q.price asked.0 asked.1)
