use Rattle.script_replay.proofs.Replying.{stepped}
use Rattle.script_replay.proofs.steps.OnBenchStepper.step.Goals as goal

pub returns-clause-did : goal.returns-clause-did
returns-clause-did g c = stepped _ _ _ _ _ _ g.T.Tell.IsOf c.react.result c.react.ensures.ready c.react.ensures.did
