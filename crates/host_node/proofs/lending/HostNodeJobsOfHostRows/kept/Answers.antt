use Rattle.row_node.specs.Knows.{keeps}
use Rattle.row_node.specs.NodeView.{held_in}
use Rattle.host_node.proofs.Seen.{kept_lent}
use Rattle.host_node.proofs.lending.HostNodeJobsOfHostRows.kept.Goals as goal

pub returns : goal.returns
returns g c = let k = c.args.self.now in kept_lent k.rows (held_in k) c.rows.result.now c.rows.ensures (keeps k)
