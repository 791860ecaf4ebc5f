use Rattle.host_jobs.specs.Acts.{close_act}
use Rattle.host_jobs.proofs.SoundActs.{leaves}
use Rattle.call_handlers.proofs.Changed.{put_made, kept_of}
use Rattle.call_handlers.proofs.host_calls.CloseCallCallHostCalleeJobRow.act.Goals as goal

pub close_act-requires : goal.close_act-requires
close_act-requires g c = kept_of c.jobs.ensures c.kept.ensures

pub returns-clause-makes : goal.returns-clause-makes
returns-clause-makes g c asked =
    let q = c.args.self.now in
    put_made c.jobs.ensures c.kept.ensures (close_act q.job c.jobs.result.now) c.close_act.ensures (λ sound. (leaves c.jobs.result.now sound).closed q.job)
