use Rattle.host_jobs.specs.Acts.{begin_print_act}
use Rattle.host_jobs.proofs.SoundActs.{leaves}
use Rattle.call_handlers.proofs.Changed.{put_made, kept_of}
use Rattle.call_handlers.proofs.host_calls.PrintCallCallHostCalleeJobRow.act.Goals as goal

pub begin_print_act-requires : goal.begin_print_act-requires
begin_print_act-requires g c = kept_of c.jobs.ensures c.kept.ensures

pub returns-clause-makes : goal.returns-clause-makes
returns-clause-makes g c asked =
    let q = c.args.self.now in
    put_made c.jobs.ensures c.kept.ensures (begin_print_act q.job c.jobs.result.now) c.begin_print_act.ensures (λ sound. (leaves c.jobs.result.now sound).begun q.job)
