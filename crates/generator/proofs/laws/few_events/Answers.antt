use Rattle.std.proofs.Common.{arith}
use Rattle.generator.specs.Events.{opened}
use Rattle.generator.proofs.Every.{few_turns}
use Rattle.generator.proofs.laws.few_events.Goals as goal

pub returns : goal.returns
returns c = record { law = λ seed count. omega (arith, few_turns count seed opened) }
