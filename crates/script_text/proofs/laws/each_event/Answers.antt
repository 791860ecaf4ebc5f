use Rattle.script_text.proofs.EachEvent.{each_event_of}
use Rattle.script_text.proofs.laws.each_event.Goals as goal

pub returns : goal.returns
returns c = record { law = each_event_of }
