use Rattle.std.proofs.Common.{inl, inr, refl}
use Rattle.trace_extensions.proofs.EventStops.{begun_seen, may_leave}
use Rattle.trace_extensions.proofs.plain.stopped.Goals as goal

pub returns-in-Err-clause-missed : goal.returns-in-Err-clause-missed
returns-in-Err-clause-missed g c = λ τ H texts history sees d event may text. inl (c.miss.ensures.open (c.in-Err.ensures.missed τ H texts history sees d event may text))

pub returns-in-Err-clause-stops : goal.returns-in-Err-clause-stops
returns-in-Err-clause-stops g c = λ τ H texts history sees K begins leaves.
    inr (c.miss.ensures.open (c.in-Err.ensures.missed τ H texts history sees begins.0 begins.1 begins.2 begins.3))

pub returns-in-Ok-keep-clause-stops : goal.returns-in-Ok-keep-clause-stops
returns-in-Ok-keep-clause-stops g c = λ τ H texts history sees K begins leaves.
    inl (c.end.ensures.verdict, begun_seen c.histories.ensures.today τ H c.args.event.now _ c.args.prefix.now _ K history (c.in-Ok.ensures.begun τ H texts history sees) leaves)

pub returns-in-Ok-keep-clause-begun : goal.returns-in-Ok-keep-clause-begun
returns-in-Ok-keep-clause-begun g c = λ n is. (
  c.in-Ok.ensures.begun,
  λ τ H texts history sees. may_leave c.histories.ensures.today τ H c.args.event.now _ c.args.prefix.now _ history (c.in-Ok.ensures.begun τ H texts history sees),
  c.in-Ok.ensures.short refl,
)
