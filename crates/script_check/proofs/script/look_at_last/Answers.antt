use Rattle.script_check.proofs.Checking.{last_steps}
use Rattle.script_check.proofs.script.look_at_last.Goals as goal

pub returns-in-Ok-clause-looks : goal.returns-in-Ok-clause-looks
returns-in-Ok-clause-looks g c =
    last_steps c.args.number c.args.line.now _ _ _ _ c.in-Ok.ensures.looks c.tell_unended.result c.tell_unended.ensures.over c.tell_unended.ensures.told
