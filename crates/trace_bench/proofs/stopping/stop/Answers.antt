use Rattle.trace_bench.specs.Seeing.{audit_of}
use Rattle.trace_bench.proofs.Stops.{lost_begun, rests_begun, none_begun, done_begun, both_come, none_come, no_doubt, empty_is, some_is}
use Rattle.trace_bench.specs.Stopping.{unanswered}
use Rattle.trace_bench.proofs.stopping.stop.Goals.{then-is_empty-via-then-is_empty, then-is_empty-via-else-is_empty+then-begins_both_ups}
use Rattle.trace_bench.proofs.stopping.stop.Goals as goal

pub returns-then-is_lost-clause-stopped : goal.returns-then-is_lost-clause-stopped
returns-then-is_lost-clause-stopped c τ H texts history unforged sees =
    let w = c.in-Ok.ensures.due τ H texts history unforged sees in
    lost_begun τ H c.args.event.now c.args.left.now c.args.prefix.now (audit_of c.lose_power.new.auditor) (rw c.if-is_lost.true at c.in-Ok-lose_power.ensures.lost τ H texts history unforged w.1)

pub returns-in_default-begun-clause-stopped : goal.returns-in_default-begun-clause-stopped
returns-in_default-begun-clause-stopped c τ H texts history unforged sees =
    let w = c.in-Ok.ensures.due τ H texts history unforged sees in
    let lost = rw c.if-is_lost.false at c.in-Ok-lose_power.ensures.lost τ H texts history unforged w.1 in
    none_begun τ H c.args.event.now c.args.left.now c.args.prefix.now (audit_of c.lose_power.new.auditor) c.in-Ok.due w.0 (rw c.in_default-begun.is at c.begun.ensures.exact τ H c.args.left.now lost.1 w.0) lost

pub returns-then-is_empty-clause-stopped : goal.returns-then-is_empty-clause-stopped
returns-then-is_empty-clause-stopped c τ H texts history unforged sees =
    let w = c.in-Ok.ensures.due τ H texts history unforged sees in
    let lost = rw c.if-is_lost.false at c.in-Ok-lose_power.ensures.lost τ H texts history unforged w.1 in
    let come = rw c.in-Some.is at c.begun.ensures.exact τ H c.args.left.now lost.1 w.0 in
    elim c.then-is_empty.branch [
      | then-is_empty-via-then-is_empty v ↦
          rests_begun τ H c.args.event.now c.args.left.now c.args.prefix.now (audit_of c.lose_power.new.auditor) c.in-Some.reply come (unanswered (empty_is c.is_empty.result c.args.prefix.now c.is_empty.ensures v.if-is_empty.true)) lost
      | then-is_empty-via-else-is_empty+then-begins_both_ups v ↦
          rests_begun τ H c.args.event.now c.args.left.now c.args.prefix.now (audit_of c.lose_power.new.auditor) c.in-Some.reply come
          (both_come τ H c.args.event.now c.args.left.now c.args.prefix.now c.requires.whole c.in-Ok.due w.0 (rw v.if-begins_both_ups.true at v.begins_both_ups.ensures.exact H lost.1)) lost
    ]

pub returns-in-Ok-tell_done-clause-stopped : goal.returns-in-Ok-tell_done-clause-stopped
returns-in-Ok-tell_done-clause-stopped c τ H texts history unforged sees =
    let w = c.in-Ok.ensures.due τ H texts history unforged sees in
    let lost = rw c.if-is_lost.false at c.in-Ok-lose_power.ensures.lost τ H texts history unforged w.1 in
    let come = rw c.in-Some.is at c.begun.ensures.exact τ H c.args.left.now lost.1 w.0 in
    let none = none_come τ H c.args.event.now c.args.left.now c.args.prefix.now c.requires.whole c.in-Ok.due w.0 (rw c.if-begins_both_ups.false at c.begins_both_ups.ensures.exact H lost.1) in
    let certain = no_doubt τ H c.args.event.now c.args.left.now c.args.prefix.now (audit_of c.lose_power.new.auditor) (some_is c.is_empty.result c.args.prefix.now c.is_empty.ensures c.if-is_empty.false) none lost in
    done_begun τ H c.args.event.now c.args.left.now c.args.prefix.now (audit_of c.tell_done.new.auditor) c.in-Some.reply come certain (rw c.in-Ok-tell_done.is at c.tell_done.ensures.done τ H texts history unforged lost.1)
