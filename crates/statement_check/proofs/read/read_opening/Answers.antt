use Rattle.statement_check.proofs.read.read_opening.Goals as goal

pub returns-in-Err-clause-none : goal.returns-in-Err-clause-none
returns-in-Err-clause-none c = λ w b customer small is. c.in-Err.ensures.none w _ b customer tt small is
