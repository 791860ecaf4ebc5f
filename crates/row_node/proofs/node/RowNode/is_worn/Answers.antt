use Rattle.row_node.specs.Knows.{keeps}
use Rattle.row_node.proofs.Worn.{worn_by}
use Rattle.row_node.proofs.node.RowNode.is_worn.Goals as goal

pub returns : goal.returns
returns g c = worn_by (keeps c.args.self.now) c.args.cell c.requires.inside c.is_worn.result c.is_worn.ensures.worn c.is_worn.ensures.less
