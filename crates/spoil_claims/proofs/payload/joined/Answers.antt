use Rattle.std.proofs.Common.{refl}
use Rattle.spoil_claims.proofs.Payloads.{laid}
use Rattle.spoil_claims.proofs.payload.joined.Goals as goal

pub returns : goal.returns
returns c = laid _ _ _ _ _ c.told-head c.told-mark refl c.put.ensures c.put-2.ensures
