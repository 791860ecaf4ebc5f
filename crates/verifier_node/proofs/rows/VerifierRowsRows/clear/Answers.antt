use Rattle.verifier_node.proofs.Blank.{none_hold, none_joined}
use Rattle.verifier_node.proofs.rows.VerifierRowsRows.clear.Goals as goal

pub returns : goal.returns
returns c held none = record { filled = none_hold held none; follows = none_joined held none c.clear.new.self c.clear.ensures }
