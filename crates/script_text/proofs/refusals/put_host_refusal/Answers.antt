use Rattle.std.proofs.Common.{rules, append_assoc}
use Rattle.script_text.specs.Refusals.{host_words}
use Rattle.script_text.proofs.refusals.put_host_refusal.Goals as goal

pub returns-in-JobsFull-clause-value : goal.returns-in-JobsFull-clause-value
unfolding host_words
returns-in-JobsFull-clause-value c = rw (c.in-JobsFull.is, c.number-in-JobsFull.ensures.value, c.word-in-JobsFull.ensures.value) (search (rules, append_assoc))
