use Rattle.std.proofs.Common.{sym, arith}
use Rattle.bench_base.specs.Rules.{todays_rules}
use Rattle.psd_state.proofs.Decisions.{asks_below}
use Rattle.psd_state.proofs.acts.ask_act.Goals as goal

pub overflow_add-number : goal.overflow_add-number
overflow_add-number c =
    let below = asks_below todays_rules c.record-kept.result.now c.args.kind c.args.customer c.args.amount c.args.day _ (sym c.in-Ok.ensures.exact) in
    omega (arith, below, c.number-number.ensures)
