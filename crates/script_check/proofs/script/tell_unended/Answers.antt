use Rattle.script_check.proofs.Checking.{both_told}
use Rattle.script_check.proofs.script.tell_unended.Goals as goal

pub returns-in-Ok-clause-told : goal.returns-in-Ok-clause-told
returns-in-Ok-clause-told g c = both_told _ _ _ _ _ c.in-Ok.ensures.told c.tell_last.result c.tell_last.ensures.told
