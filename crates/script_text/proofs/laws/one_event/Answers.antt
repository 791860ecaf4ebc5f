use Rattle.script_text.proofs.EachEvent.{one_event_of}
use Rattle.script_text.proofs.laws.one_event.Goals as goal

pub returns : goal.returns
returns c = record { law = one_event_of }
