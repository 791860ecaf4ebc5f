use Rattle.statement_check.proofs.read.read_deposit.Goals as goal

pub returns-in-Err-clause-none : goal.returns-in-Err-clause-none
returns-in-Err-clause-none c = λ r a b word amount small is. c.in-Err.ensures.none r a _ b word amount tt small is
