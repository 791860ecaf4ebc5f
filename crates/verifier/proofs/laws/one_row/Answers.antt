use Rattle.verifier.proofs.Laid.{payload_laws}
use Rattle.verifier.proofs.laws.one_row.Goals as goal

pub returns : goal.returns
returns c = payload_laws
