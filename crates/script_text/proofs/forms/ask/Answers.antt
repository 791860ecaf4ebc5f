use Rattle.script_text.proofs.LineForms.{no_ask}
use Rattle.script_text.proofs.forms.ask.Goals as goal

pub returns-in-Err : goal.returns-in-Err
returns-in-Err c = record { read = no_ask _ _ c.in-Err.ensures.none c.ask_alone.ensures.found c.ask_alone.ensures.none }
