use Rattle.std.proofs.Common.{ℕ, List, sym, ap₂, ◌∙◌}
use Rattle.spoil_claims.specs.Payload.{claim_in}
use Rattle.spoil_claims.proofs.Payloads.{read_is, decoded_is}
use Rattle.spoil_claims.proofs.payload.ClaimRowsRows73.read.Goals as goal

pub returns : goal.returns
returns c =
    read_is c.args.cell _ _ c.claim_of.result c.claim_of.ensures.found c.claim_of.ensures.none
    ∙ ap₂ (λ (vs mark : List ℕ). claim_in c.args.cell vs mark) c.head_in-head.ensures c.mark_in.ensures ∙ sym (decoded_is c.args.cell c.args.payload.now)
