use Rattle.script_text.proofs.EachReply.{one_reply_of}
use Rattle.trace_extensions.proofs.DepartmentsModel.{departments_asks, departments_determined, departments_ends, departments_failures, departments_modelled, departments_one_failure, departments_tells}
use Rattle.trace_extensions.proofs.words.DepartmentsTracedExtension.laws.Goals as goal

pub returns-clause-modelled : goal.returns-clause-modelled
returns-clause-modelled g c = departments_modelled g.N.Nv

pub returns-clause-determined : goal.returns-clause-determined
returns-clause-determined g c = departments_determined

pub returns-clause-asks : goal.returns-clause-asks
returns-clause-asks g c = departments_asks

pub returns-clause-ends : goal.returns-clause-ends
returns-clause-ends g c = departments_ends

pub returns-clause-failures : goal.returns-clause-failures
returns-clause-failures g c = departments_failures

pub returns-clause-one_failure : goal.returns-clause-one_failure
returns-clause-one_failure g c = λ number line x y one two. departments_one_failure number line x y one two

pub returns-clause-tells : goal.returns-clause-tells
returns-clause-tells g c = λ τ old new line steps did. departments_tells one_reply_of τ old new line steps did
