use Rattle.trace_bench.specs.Seeing.{audit_of}
use Rattle.trace_bench.proofs.Stops.{then_ok, loses_there}
use Rattle.trace_bench.proofs.stopping.lose_power_there.Goals as goal

pub returns-then-begins_failure-clause-lost : goal.returns-then-begins_failure-clause-lost
returns-then-begins_failure-clause-lost c τ H texts history unforged sees =
    then_ok _ _ (loses_there τ H c.args.event.now c.args.left.now c.args.node.now c.requires.named c.args.prefix.now (audit_of c.lose_power_at.new.auditor) (rw c.if-begins_failure.true at c.begins_failure.ensures.exact))
    c.lose_power_at.result (c.lose_power_at.ensures.lost τ H texts history unforged sees)
