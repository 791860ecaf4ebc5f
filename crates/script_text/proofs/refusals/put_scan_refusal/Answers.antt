use Rattle.std.proofs.Common.{rules, append_assoc}
use Rattle.script_text.specs.Refusals.{scan_words}
use Rattle.script_text.proofs.refusals.put_scan_refusal.Goals as goal

pub returns-in-Duplicate-clause-value : goal.returns-in-Duplicate-clause-value
unfolding scan_words
returns-in-Duplicate-clause-value c = rw (c.in-Duplicate.is, c.number-in-Duplicate.ensures.value, c.word-in-Duplicate.ensures.value) (search (rules, append_assoc))
