use Rattle.row_node.specs.NodeView.{held_in}
use Rattle.host_node.proofs.Seen.{jobs_lent}
use Rattle.host_node.proofs.lending.HostNodeJobsOfHostRows.jobs.Goals as goal

pub returns : goal.returns
returns g c = let k = c.args.self.now in jobs_lent k.rows (held_in k) c.rows.result.now c.rows.ensures k.filled
