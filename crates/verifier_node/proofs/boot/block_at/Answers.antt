use Rattle.std.proofs.Common.{ap, ◌∙◌}
use Rattle.verifier_node.specs.Boots.{block_spelled}
use Rattle.verifier_node.proofs.boot.block_at.Goals as goal

pub returns-in-Some : goal.returns-in-Some
returns-in-Some c = (λ i. (c.block_in.ensures.device i, c.block_in.ensures.number i)) ∙ ap (λ o. block_spelled o) c.in-Some.ensures.payload

pub returns-in-None : goal.returns-in-None
returns-in-None c = ap (λ o. block_spelled o) c.in-None.ensures.payload
