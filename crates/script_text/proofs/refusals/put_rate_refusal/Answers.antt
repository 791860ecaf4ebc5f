use Rattle.std.proofs.Common.{rules, append_assoc}
use Rattle.script_text.proofs.refusals.put_rate_refusal.Goals as goal

pub returns-in-TooHeavy-clause-value : goal.returns-in-TooHeavy-clause-value
returns-in-TooHeavy-clause-value c = rw (c.in-TooHeavy.is, c.number-in-TooHeavy.ensures.value, c.word-in-TooHeavy.ensures.value) (search (rules, append_assoc))
