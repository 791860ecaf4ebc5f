use Rattle.std.proofs.Common.{arith}
use Rattle.psd_state.proofs.Under.{zero_mark, some_mark, not_zero_mark, not_some_mark}
use Rattle.psd_state.proofs.parts.read_kept.Goals as goal
use Rattle.bench_base.proofs.Facts.{not_so, is_so}

pub returns-then-is_zero-clause-found : goal.returns-then-is_zero-clause-found
returns-then-is_zero-clause-found c = (tt, c.if-pieces-eq0.true, zero_mark _ _ c.requires (is_so _ _ c.is_zero.ensures c.if-is_zero.true))

pub returns-then-pieces-eq0-clause-none : goal.returns-then-pieces-eq0-clause-none
returns-then-pieces-eq0-clause-none c = not_zero_mark _ _ _ c.if-pieces-eq0.true c.requires (not_so _ _ c.is_zero.ensures c.if-is_zero.false)

pub returns-in-Some-clause-found : goal.returns-in-Some-clause-found
returns-in-Some-clause-found c = (c.in-Some.ensures.found.0, omega (arith, c.if-pieces-eq0.false), some_mark _ _ _ c.in-Some.ensures.found.1)

pub returns-in-None-clause-none : goal.returns-in-None-clause-none
returns-in-None-clause-none c = not_some_mark _ _ _ (λ e. absurd (omega (arith, c.if-pieces-eq0.false, e))) c.in-None.ensures.none
