use Rattle.spoil_claims.specs.declared.claim.TheConstants.{CLAIM_BYTES}
use Rattle.spoil_claims.proofs.run.fresh_desk.Goals as goal

pub boot-requires-clause-powered : goal.boot-requires-clause-powered
boot-requires-clause-powered c = c.in_ok-nv.ensures.works.powered

pub returns-in-Ok-clause-none : goal.returns-in-Ok-clause-none
returns-in-Ok-clause-none c = c.in-Ok.ensures.blank c.in_ok-nv.ensures.tells CLAIM_BYTES c.in_ok-nv.ensures.blank
