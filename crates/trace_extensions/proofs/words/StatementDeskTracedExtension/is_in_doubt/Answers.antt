use Rattle.trace_extensions.proofs.StatementModel.{statement_tells, statement_idle}
use Rattle.trace_extensions.specs.StatementModel.{statement_model, Fails}
use Rattle.trace_extensions.proofs.Settled.{settled_by}
use Rattle.trace_extensions.proofs.words.StatementDeskTracedExtension.is_in_doubt.Goals as goal

pub returns-clause-settled : goal.returns-clause-settled
returns-clause-settled c = λ no τ old new line text more steps did first desk are begins.
    settled_by Fails (statement_model.texts new.desk) text c.args._prefix.now more steps are (λ n x fails. fails) (λ n x fails. fails) (statement_tells τ old new line steps did)

pub returns-clause-idle : goal.returns-clause-idle
returns-clause-idle c = λ no none τ old new line steps next did first desk. statement_idle τ old new line steps next did
