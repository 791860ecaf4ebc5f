use Rattle.std.proofs.Common.{sym}
use Rattle.psd_state.proofs.Under.{zero_pending, some_second, not_zero_pending, not_some_second}
use Rattle.psd_state.proofs.parts.read_second_pending.Goals as goal
use Rattle.bench_base.proofs.Facts.{not_so, is_so}

pub returns-then-is_zero-clause-found : goal.returns-then-is_zero-clause-found
returns-then-is_zero-clause-found c = (tt, sym c.in-0.is, λ key. zero_pending 2 key _ c.requires (is_so _ _ c.is_zero.ensures c.if-is_zero.true))

pub returns-else-is_zero-clause-none : goal.returns-else-is_zero-clause-none
returns-else-is_zero-clause-none c = λ o key. not_zero_pending 2 key _ _ c.in-0.is c.requires (not_so _ _ c.is_zero.ensures c.if-is_zero.false) o

pub returns-in-Some-clause-found : goal.returns-in-Some-clause-found
returns-in-Some-clause-found c = (c.in-Some.ensures.found.0, sym c.in-1.is, λ key. some_second key _ _ c.in-Some.ensures.found.1)

pub returns-in-None-clause-none : goal.returns-in-None-clause-none
returns-in-None-clause-none c = λ o key. not_some_second key _ _ c.in-1.is c.in-None.ensures.none o
