use Rattle.host_jobs.specs.Acts.{take_act}
use Rattle.host_jobs.proofs.SoundActs.{leaves}
use Rattle.call_handlers.proofs.Changed.{put_made, kept_of}
use Rattle.call_handlers.proofs.host_calls.TakeReleaseCallCallHostCalleeJobRow.act.Goals as goal

pub take_act-requires : goal.take_act-requires
take_act-requires g c = kept_of c.jobs.ensures c.kept.ensures

pub returns-clause-makes : goal.returns-clause-makes
returns-clause-makes g c asked =
    let bytes = c.as_slice.result.now in
    put_made c.jobs.ensures c.kept.ensures (take_act bytes c.jobs.result.now) c.take_act.ensures (λ sound. (leaves c.jobs.result.now sound).taken bytes)
