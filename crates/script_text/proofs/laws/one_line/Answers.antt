use Rattle.script_text.proofs.EachReply.{one_line_of}
use Rattle.script_text.proofs.laws.one_line.Goals as goal

pub returns : goal.returns
returns c = record { law = one_line_of }
