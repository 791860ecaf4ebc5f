use Rattle.bench.proofs.OneTurn.{each_ok, told_steps}
use Rattle.bench.proofs.event.step.Goals as goal

pub returns-clause-did : goal.returns-clause-did
returns-clause-did g c = each_ok _ _ (λ told did. (did.0, told_steps _ _ _ told did.1 _ _ _ _ did.2 did.3)) c.react.result c.react.ensures.did
