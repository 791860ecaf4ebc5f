use Rattle.centre_statement.proofs.lines.read_open.Goals as goal

pub returns-in-Err-clause-none : goal.returns-in-Err-clause-none
returns-in-Err-clause-none c = λ w customer is. c.in-Err.ensures.none _ w tt customer is
