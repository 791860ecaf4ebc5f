use Rattle.std.proofs.Common.{sym, ◌∙◌}
use Rattle.std.proofs.lemmas.Option.{same_Some}
use Rattle.row_store.specs.Seen.{ReadsAs}
use Rattle.row_node.specs.ShowsLaws.{one_shown}
use Rattle.spoil_claims.specs.Payload.{decoded}
use Rattle.spoil_claims.specs.declared.claim.TheConstants.{CLAIM_CELLS}
use Rattle.spoil_claims.proofs.laws.one_list_is_shown.Goals as goal

pub returns : goal.returns
returns c a b image long long' shows shows' = one_shown 73 CLAIM_CELLS (ReadsAs decoded) (λ k x y p reads reads'. same_Some x y (sym reads ∙ reads')) a b image long long' shows shows'
