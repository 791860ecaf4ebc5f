use Rattle.host_jobs.specs.Acts.{begin_print_act}
use Rattle.host_node.specs.HostView.{rows_of}
use Rattle.host_node.proofs.Fits.{sound_acts, can_commit}
use Rattle.host_node.proofs.host.Host.begin_print.Goals as goal

pub perform-requires : goal.perform-requires
perform-requires g c =
    let rows = rows_of c.args.self.now in
    record { fits = can_commit c.jobs.result.now rows (λ l. begin_print_act c.args.job l) c.begin_print_act-act.result c.jobs.ensures c.begin_print_act-act.ensures ((sound_acts rows c.kept.result.now c.kept.ensures).begun c.args.job) }
