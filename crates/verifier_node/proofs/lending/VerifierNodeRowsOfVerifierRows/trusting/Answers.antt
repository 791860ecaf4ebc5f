use Rattle.row_node.specs.Knows.{keeps}
use Rattle.row_node.specs.NodeView.{held_in}
use Rattle.verifier_node.proofs.Takes.{rows_sound}
use Rattle.verifier_node.proofs.lending.VerifierNodeRowsOfVerifierRows.trusting.Goals as goal

pub returns-clause-sound : goal.returns-clause-sound
returns-clause-sound g c = let k = c.args.self.now in rows_sound k.rows (held_in k) (keeps k)
