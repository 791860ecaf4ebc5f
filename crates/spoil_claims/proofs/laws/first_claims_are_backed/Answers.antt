use Rattle.spoil_claims.proofs.Blank.{none_backed, nothing_accepted}
use Rattle.spoil_claims.proofs.laws.first_claims_are_backed.Goals as goal

pub returns-clause-first : goal.returns-clause-first
returns-clause-first c rows L none all = none_backed rows L none all

pub returns-clause-nothing : goal.returns-clause-nothing
returns-clause-nothing c = nothing_accepted
