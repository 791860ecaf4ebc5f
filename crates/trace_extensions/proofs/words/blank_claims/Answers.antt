use Rattle.spoil_claims.specs.declared.claim.TheConstants.{CLAIM_BYTES}
use Rattle.trace_extensions.proofs.words.blank_claims.Goals as goal

pub boot-requires-clause-powered : goal.boot-requires-clause-powered
boot-requires-clause-powered c = c.in_ok-nv.ensures.powered

pub returns-in-Ok : goal.returns-in-Ok
returns-in-Ok c = record {
  none = c.in-Ok.ensures.blank c.blank_store.ensures.tells CLAIM_BYTES c.in_ok-nv.ensures.blank;
}
