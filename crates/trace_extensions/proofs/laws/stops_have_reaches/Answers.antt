use Rattle.trace_extensions.proofs.HaveReaches.{have_reaches}
use Rattle.trace_extensions.proofs.laws.stops_have_reaches.Goals as goal

pub returns : goal.returns
returns c word = have_reaches word
