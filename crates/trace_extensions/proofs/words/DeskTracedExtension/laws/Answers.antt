use Rattle.script_text.proofs.EachReply.{one_reply_of}
use Rattle.trace_extensions.proofs.ClaimsModel.{claims_asks, claims_determined, claims_ends, claims_failures, claims_modelled, claims_one_failure, claims_tells}
use Rattle.trace_extensions.proofs.words.DeskTracedExtension.laws.Goals as goal

pub returns-clause-modelled : goal.returns-clause-modelled
returns-clause-modelled g c = claims_modelled g.N.Nv

pub returns-clause-determined : goal.returns-clause-determined
returns-clause-determined g c = claims_determined

pub returns-clause-asks : goal.returns-clause-asks
returns-clause-asks g c = claims_asks

pub returns-clause-ends : goal.returns-clause-ends
returns-clause-ends g c = claims_ends

pub returns-clause-failures : goal.returns-clause-failures
returns-clause-failures g c = claims_failures

pub returns-clause-one_failure : goal.returns-clause-one_failure
returns-clause-one_failure g c = λ number line x y one two. claims_one_failure number line x y one two

pub returns-clause-tells : goal.returns-clause-tells
returns-clause-tells g c = λ τ old new line steps did. claims_tells one_reply_of τ old new line steps did
