use Rattle.trace_extensions.proofs.StatementModel.{statement_asks, statement_determined, statement_ends, statement_failures, statement_modelled, statement_one_failure, statement_tells}
use Rattle.trace_extensions.proofs.words.StatementDeskTracedExtension.laws.Goals as goal

pub returns-clause-modelled : goal.returns-clause-modelled
returns-clause-modelled c = statement_modelled

pub returns-clause-determined : goal.returns-clause-determined
returns-clause-determined c = statement_determined

pub returns-clause-asks : goal.returns-clause-asks
returns-clause-asks c = statement_asks

pub returns-clause-ends : goal.returns-clause-ends
returns-clause-ends c = statement_ends

pub returns-clause-failures : goal.returns-clause-failures
returns-clause-failures c = statement_failures

pub returns-clause-one_failure : goal.returns-clause-one_failure
returns-clause-one_failure c = λ number line x y one two. statement_one_failure number line x y one two

pub returns-clause-tells : goal.returns-clause-tells
returns-clause-tells c = λ τ old new line steps did. statement_tells τ old new line steps did
