use Rattle.trace_bench.proofs.judging.day_told.Goals as goal

pub returns-then-is_told : goal.returns-then-is_told
returns-then-is_told g c = (c.is_told.ensures.exact.0 c.if-is_told.true, c.is_told.ensures.whole, c.one.result, c.one.ensures, c.heard_of.ensures)
