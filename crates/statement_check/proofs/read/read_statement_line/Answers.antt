use Rattle.statement_check.proofs.Lines.{line_found, line_none, none_alone}
use Rattle.statement_check.proofs.read.read_statement_line.Goals as goal

pub returns-in-Some-clause-found : goal.returns-in-Some-clause-found
returns-in-Some-clause-found c = line_found c.read_behind.result c.args.bytes.now _ _ c.in-Some.ensures.split c.read_behind.ensures.found

pub returns-in-Some-clause-none : goal.returns-in-Some-clause-none
returns-in-Some-clause-none c = line_none c.read_behind.result c.args.bytes.now _ _ c.in-Some.ensures.split c.read_behind.ensures.none

pub returns-in-None-clause-none : goal.returns-in-None-clause-none
returns-in-None-clause-none c = none_alone c.args.bytes.now c.in-None.ensures.split
