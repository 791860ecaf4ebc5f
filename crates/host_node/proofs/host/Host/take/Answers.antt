use Rattle.host_jobs.specs.Acts.{take_act}
use Rattle.host_node.specs.HostView.{rows_of}
use Rattle.host_node.proofs.Fits.{sound_acts, can_commit}
use Rattle.host_node.proofs.host.Host.take.Goals as goal

pub perform-requires : goal.perform-requires
perform-requires g c =
    let rows = rows_of c.args.self.now in
    record { fits = can_commit c.jobs.result.now rows (λ l. take_act c.args.bytes.now l) c.take_act-act.result c.jobs.ensures c.take_act-act.ensures ((sound_acts rows c.kept.result.now c.kept.ensures).taken c.args.bytes.now) }
