use Rattle.psd_state.proofs.Parted.{one_payload, one_reading}
use Rattle.psd_state.proofs.laws.one_payload.Goals as goal

pub returns-clause-one_spelling : goal.returns-clause-one_spelling
returns-clause-one_spelling c = one_payload

pub returns-clause-one_reading : goal.returns-clause-one_reading
returns-clause-one_reading c = one_reading
