use Rattle.statement_check.proofs.read.read_ruled.Goals as goal

pub returns-in-Err-clause-none : goal.returns-in-Err-clause-none
returns-in-Err-clause-none c = λ d n a b device word amount small is. c.in-Err.ensures.none d n a _ b device word amount tt small is
