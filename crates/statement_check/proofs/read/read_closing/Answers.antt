use Rattle.statement_check.proofs.read.read_closing.Goals as goal

pub returns-in-Err-clause-none : goal.returns-in-Err-clause-none
returns-in-Err-clause-none c = λ b small is. c.in-Err.ensures.none b small is
