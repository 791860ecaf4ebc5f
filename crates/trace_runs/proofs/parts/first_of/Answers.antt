use Rattle.std.proofs.Common.{sym, arith}
use Rattle.std.proofs.lemmas.List.{take_all}
use Rattle.trace_runs.proofs.parts.first_of.Goals as goal

pub returns-then-prints-lt-LINE : goal.returns-then-prints-lt-LINE
returns-then-prints-lt-LINE c = sym (take_all 129 c.args.prints.now (omega (arith, c.if-prints-lt-LINE.true)))
