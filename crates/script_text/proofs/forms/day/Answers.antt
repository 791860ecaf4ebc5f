use Rattle.script_text.proofs.LineForms.{no_day}
use Rattle.script_text.proofs.forms.day.Goals as goal

pub returns-in-Some : goal.returns-in-Some
returns-in-Some c = record { read = no_day c.args.rest.now _ _ c.in-Some.ensures.split }
