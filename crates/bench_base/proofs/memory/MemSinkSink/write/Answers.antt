use Rattle.std.proofs.Common.{arith, rules}
use Rattle.std.proofs.lemmas.Grind.{common_steps}
use Rattle.bench_base.proofs.memory.MemSinkSink.write.Goals as goal

pub returns : goal.returns
returns c = record {
  bound = search rules;
  bytes = grind (arith, common_steps);
  cause = search rules;
  refused = search rules;
  zero = search rules;
  full = search rules;
  whole = search rules;
  nothing = search rules;
  room = grind (arith, common_steps);
  count = search rules;
  lists = search rules;
}
