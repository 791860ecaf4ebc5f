use Rattle.std.proofs.Common.{◌∙◌}
use Rattle.spoil_claims.proofs.Payloads.{end_of}
use Rattle.spoil_claims.proofs.payload.mark_in.Goals as goal

pub returns : goal.returns
returns c = c.copy_from_slice.ensures.after ∙ end_of c.args.payload.now c.told-payload
