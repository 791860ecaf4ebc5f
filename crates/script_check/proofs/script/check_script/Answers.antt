use Rattle.std.proofs.Common.{◌≡◌, arith, refl}
use Rattle.script_check.proofs.Checking.{progress_none, progress_more, checks, too_long}
use Rattle.script_check.proofs.script.check_script.Goals as goal

pub loop-count-init : goal.loop-count-init
loop-count-init g c = record { progress = progress_none _ _; script_later = omega arith; sink_later = omega arith }

pub loop-count-preserved : goal.loop-count-preserved
loop-count-preserved g c = record {
  progress = progress_more c.loop-count.count c.loop-count.is_well_formed c.in-Ok-On.is_right _ _ _ _ _ _ _ c.loop-count.invariant.progress c.both-is_well_formed.ensures (rw c.in-Ok-On.field-0-is at c.in-Ok-On.ensures.steps);
  script_later = omega (arith, c.loop-count.invariant.script_later, c.turn.ensures.fails.script_later);
  sink_later = omega (arith, c.loop-count.invariant.sink_later, c.turn.ensures.fails.sink_later);
}

pub returns-in-Ok-Over-clause-checks : goal.returns-in-Ok-Over-clause-checks
returns-in-Ok-Over-clause-checks g c =
    checks c.loop-count.count c.loop-count.is_well_formed c.in-Ok-Over.is_right _ _ _ _ _ _ _ c.loop-count.invariant.progress c.both.ensures (rw c.in-Ok-Over.field-0-is at c.in-Ok-Over.ensures.steps) _ refl (omega (arith, c.loop-count-test.true))

pub returns-in-Ok-clause-checks : goal.returns-in-Ok-clause-checks
returns-in-Ok-clause-checks g c =
    let all : c.loop-count.count ≡ 1000000 = omega (arith, c.loop-count-test.false, c.loop-count.auto.count-end) in
    too_long c.loop-count.count c.loop-count.is_well_formed _ _ _ _ _ c.loop-count.invariant.progress all c.in-Ok.ensures.told _ refl refl
