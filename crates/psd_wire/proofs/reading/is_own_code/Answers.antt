use Rattle.psd_wire.proofs.Codes.{code_is}
use Rattle.psd_wire.proofs.reading.is_own_code.Goals as goal

pub returns : goal.returns
returns c = code_is _ _ _ c.code_matches_by.ensures
