use Rattle.script_text.proofs.EachReply.{one_reply_of}
use Rattle.trace_extensions.proofs.ManifestModel.{manifest_asks, manifest_determined, manifest_ends, manifest_failures, manifest_modelled, manifest_one_failure, manifest_tells}
use Rattle.trace_extensions.proofs.words.CheckerTracedExtension.laws.Goals as goal

pub returns-clause-modelled : goal.returns-clause-modelled
returns-clause-modelled c = manifest_modelled

pub returns-clause-determined : goal.returns-clause-determined
returns-clause-determined c = manifest_determined

pub returns-clause-asks : goal.returns-clause-asks
returns-clause-asks c = manifest_asks

pub returns-clause-ends : goal.returns-clause-ends
returns-clause-ends c = manifest_ends

pub returns-clause-failures : goal.returns-clause-failures
returns-clause-failures c = manifest_failures

pub returns-clause-one_failure : goal.returns-clause-one_failure
returns-clause-one_failure c = λ number line x y one two. manifest_one_failure number line x y one two

pub returns-clause-tells : goal.returns-clause-tells
returns-clause-tells c = λ τ old new line steps did. manifest_tells one_reply_of τ old new line steps did
