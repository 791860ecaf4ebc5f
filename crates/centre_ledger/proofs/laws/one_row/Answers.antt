use Rattle.centre_ledger.proofs.OneRow.{payload_laws}
use Rattle.centre_ledger.proofs.laws.one_row.Goals as goal

pub returns : goal.returns
returns c = payload_laws
