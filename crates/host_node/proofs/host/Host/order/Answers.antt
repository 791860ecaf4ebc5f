use Rattle.std.proofs.Common.{subst}
use Rattle.bench_base.specs.Ranges.{IsDevice}
use Rattle.host_jobs.specs.Acts.{order_act}
use Rattle.host_node.specs.HostView.{rows_of}
use Rattle.host_node.proofs.Fits.{sound_acts, can_commit}
use Rattle.host_node.proofs.host.Host.order.Goals as goal

pub perform-requires : goal.perform-requires
perform-requires g c =
    let rows = rows_of c.args.self.now in
    record { fits = can_commit c.jobs.result.now rows (λ l. order_act c.args.device c.args.piece c.args.class c.args.price l) c.order_act-act.result c.jobs.ensures c.order_act-act.ensures ((sound_acts rows c.kept.result.now c.kept.ensures).ordered c.args.device c.args.piece c.args.class c.args.price (subst IsDevice c.get-number.ensures.value c.get-number.ensures.range) c.requires.price) }
