use Rattle.std.proofs.Common.{ℕ, Option, sym, subst}
use Rattle.trace_seen.specs.Marks.{Ticks}
use Rattle.trace_seen.proofs.Telling.{ticks_alike, ticks_unseen}
use Rattle.trace_bench.specs.Debits.{IsLastOf}
use Rattle.trace_bench.proofs.Debiting.{last_alike}
use Rattle.trace_bench.proofs.ticking.tick_last.Goals as goal

pub returns-then-is_empty : goal.returns-then-is_empty
returns-then-is_empty c = ticks_unseen _ _ (c.is_empty.ensures c.if-is_empty.true)

pub returns : goal.returns
returns c =
    let devices = c.args.devices.now in
    let traced = c.traced_of-traced in
    subst (λ (o : Option ℕ). Ticks (λ q. IsLastOf o devices q) c.args.seen.now c.tick.new.seen) (sym c.in-Some.is)
    (ticks_alike _ _ _ _ (last_alike devices c.in-Some.device traced.result.now traced.ensures.at traced.ensures.named c.last_mark.result c.last_mark.ensures) c.tick.ensures)
