use Rattle.std.proofs.Common.{sym}
use Rattle.psd_state.proofs.Under.{zero_pending, some_first, not_zero_pending, not_some_first}
use Rattle.psd_state.proofs.parts.read_first_pending.Goals as goal
use Rattle.bench_base.proofs.Facts.{not_so, is_so}

pub returns-then-is_zero-clause-found : goal.returns-then-is_zero-clause-found
returns-then-is_zero-clause-found c = (tt, sym c.in-0.is, zero_pending 1 _ _ c.requires (is_so _ _ c.is_zero.ensures c.if-is_zero.true))

pub returns-else-is_zero-clause-none : goal.returns-else-is_zero-clause-none
returns-else-is_zero-clause-none c = not_zero_pending 1 _ _ _ c.in-0.is c.requires (not_so _ _ c.is_zero.ensures c.if-is_zero.false)

pub returns-in-Some-clause-found : goal.returns-in-Some-clause-found
returns-in-Some-clause-found c = (c.in-Some.ensures.found.0, sym c.in-1.is, some_first _ _ _ c.in-Some.ensures.found.1)

pub returns-in-None-clause-none : goal.returns-in-None-clause-none
returns-in-None-clause-none c = not_some_first _ _ _ c.in-1.is c.in-None.ensures.none
