use Rattle.bench_base.specs.declared.events.Event.TheVariants as ev
use Rattle.host_departments.proofs.lines.print_in.Goals as goal

pub returns-in-Err-clause-none : goal.returns-in-Err-clause-none
returns-in-Err-clause-none c j is = c.in-Err.ensures.none (ev.Print j) is.whole is.spells
