use Rattle.trace_runs.proofs.Opening.{takes_fault, takes_whole, takes_neither}
use Rattle.trace_runs.proofs.imprint.taken_by.Goals as goal

pub returns-then-begins : goal.returns-then-begins
returns-then-begins c = takes_fault c.args.job c.args.prefix.now c.begins.result c.begins.ensures.exact c.if-begins.true

pub returns-then-begins-2 : goal.returns-then-begins-2
returns-then-begins-2 c = takes_whole c.args.job c.args.prefix.now c.begins.result c.begins.ensures.exact c.begins-2.result c.begins-2.ensures.exact c.if-begins.false c.if-begins-2.true

pub returns-else-begins-2 : goal.returns-else-begins-2
returns-else-begins-2 c = takes_neither c.args.job c.args.prefix.now c.begins.result c.begins.ensures.exact c.begins-2.result c.begins-2.ensures.exact c.if-begins-2.false
