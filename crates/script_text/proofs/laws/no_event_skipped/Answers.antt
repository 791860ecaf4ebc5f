use Rattle.script_text.proofs.EachEvent.{no_event_skipped}
use Rattle.script_text.proofs.laws.no_event_skipped.Goals as goal

pub returns : goal.returns
returns c = record { law = no_event_skipped }
