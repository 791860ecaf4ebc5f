use Rattle.script_text.proofs.EachReply.{one_reply_of}
use Rattle.script_text.proofs.laws.one_reply.Goals as goal

pub returns : goal.returns
returns c = record { law = one_reply_of }
