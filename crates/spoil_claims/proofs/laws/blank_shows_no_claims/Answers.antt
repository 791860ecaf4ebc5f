use Rattle.row_node.proofs.Blank.{blank_shown}
use Rattle.row_store.specs.Seen.{ReadsAs}
use Rattle.spoil_claims.proofs.Blank.{no_claim}
use Rattle.spoil_claims.specs.Payload.{decoded}
use Rattle.spoil_claims.specs.declared.claim.TheConstants.{CLAIM_CELLS}
use Rattle.spoil_claims.proofs.laws.blank_shows_no_claims.Goals as goal

pub returns-clause-shows : goal.returns-clause-shows
returns-clause-shows c rows bytes none = blank_shown rows none 73 CLAIM_CELLS bytes (ReadsAs decoded)

pub returns-clause-none : goal.returns-clause-none
returns-clause-none c rows bytes long shows k = no_claim CLAIM_CELLS bytes rows long shows k
