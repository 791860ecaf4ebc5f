use Rattle.trace_runs.proofs.Counting.{took_end}
use Rattle.trace_runs.proofs.ReadTurns.{said_lawful, said_line, said_long}
use Rattle.trace_runs.proofs.ends.over.Goals as goal

pub returns-in-End-clause-over : goal.returns-in-End-clause-over
returns-in-End-clause-over g c = said_lawful c.args.end c.args.number _ _ c.read_line.new.buf c.in-End.ensures.taken

pub returns-in-Line-clause-over : goal.returns-in-Line-clause-over
returns-in-Line-clause-over g c = said_line c.args.end c.args.number _ _ c.read_line.new.buf c.in-Line.field-0 c.in-Line.field-1 c.in-Line.ensures.taken

pub returns-in-Long-clause-over : goal.returns-in-Long-clause-over
returns-in-Long-clause-over g c = said_long c.args.end c.args.number _ _ c.read_line.new.buf c.in-Long.ensures.taken

pub returns-in-End-clause-counted : goal.returns-in-End-clause-counted
returns-in-End-clause-counted g c = λ e lawful. (cc, took_end _ _ c.read_line.new.buf c.in-End.ensures.taken)
