use Rattle.std.proofs.Common.{◌≡◌, ℕ, ◌∙◌, List, length, ap, arith, refl}
use Rattle.trace_bench.specs.Seeing.{audit_of}
use Rattle.trace_runs.specs.declared.verdict.Ending.TheVariants.{TooLong}
use Rattle.trace_runs.specs.Takes.{answers_behind}
use Rattle.trace_runs.proofs.Counting.{took_none, took_more, answers_with, answers_then}
use Rattle.trace_runs.proofs.Passing.{begins, goes, ends, falls, too_many}
use Rattle.trace_runs.proofs.audit.audit_run.Goals as goal

pub loop-count-init : goal.loop-count-init
loop-count-init g c = record {
  ready = c.begin.ensures.ready;
  kept = c.begin.ensures.kept;
  few = omega (arith, ap (λ (l : List (List ℕ)). length l) c.begin.ensures.no_messages);
  counted = took_none _;
  few_answers = omega arith;
  progress = begins c.args.rates.now (audit_of c.args.auditor.now) (audit_of c.begin.new.self) c.args.imprints.now.items _ _ c.begin.ensures.sees;
  script_later = omega arith;
  report_later = omega arith;
}

pub returns-in-Err-clause-audited : goal.returns-in-Err-clause-audited
returns-in-Err-clause-audited g c = rw c.judged.ensures.verdict (
    falls c.loop-count.count c.args.rates.now c.loop-count.left.now (audit_of c.args.auditor.now) (audit_of c.loop-count.auditor) (audit_of c.turn.new.auditor) c.args.imprints.now.items c.loop-count.imprints.items c.turn.new.imprints.items _ _ _ _ _ _
    c.loop-count.invariant.progress c.in-Err.verdict (omega (arith, c.loop-count-test.true)) c.in-Err.ensures.turns)

pub returns-then-step-clause-audited : goal.returns-then-step-clause-audited
returns-then-step-clause-audited g c =
    ends c.loop-count.count c.args.rates.now c.loop-count.left.now (audit_of c.args.auditor.now) (audit_of c.loop-count.auditor) (audit_of c.turn.new.auditor) c.args.imprints.now.items c.loop-count.imprints.items c.turn.new.imprints.items _ _ _ _ _ _
    c.loop-count.invariant.progress c.in-Ok.step c.in-Ok.ensures.turns c.behind-left.result.now c.behind-left.ensures c.if-step.true (omega (arith, c.loop-count-test.true)) c.missing_at.result c.over.result c.missing_at.ensures _ c.over.ensures.over

pub loop-count-preserved : goal.loop-count-preserved
loop-count-preserved g c = record {
  ready = c.in-Ok.ensures.ready;
  kept = c.in-Ok.ensures.kept ∙ c.loop-count.invariant.kept;
  few = omega (arith, c.in-Ok.ensures.few, c.loop-count.invariant.few);
  counted = took_more _ _ _ c.loop-count.answers c.in-Ok.step.answers _ c.loop-count.invariant.counted c.in-Ok.ensures.counted refl;
  few_answers = omega (arith, c.in-Ok.ensures.few_answers, c.loop-count.invariant.few_answers);
  progress = goes c.loop-count.count c.args.rates.now c.loop-count.left.now (audit_of c.args.auditor.now) (audit_of c.loop-count.auditor) (audit_of c.turn.new.auditor) c.args.imprints.now.items c.loop-count.imprints.items c.turn.new.imprints.items _ _ _ _ _ _
      c.loop-count.invariant.progress c.in-Ok.step c.in-Ok.ensures.turns c.behind-left.result.now c.behind-left.ensures c.if-step.false;
  script_later = omega (arith, c.in-Ok.ensures.script_later, c.loop-count.invariant.script_later);
  report_later = omega (arith, c.in-Ok.ensures.report_later, c.loop-count.invariant.report_later);
}

pub returns-clause-audited : goal.returns-clause-audited
returns-clause-audited g c =
    let all : c.loop-count.count ≡ 1000000 = omega (arith, c.loop-count-test.false, c.loop-count.auto.count-end) in
    too_many c.loop-count.count c.args.rates.now c.loop-count.left.now (audit_of c.args.auditor.now) (audit_of c.loop-count.auditor) c.args.imprints.now.items c.loop-count.imprints.items _ _ _ _ _
    c.loop-count.invariant.progress all c.over-2.result c.over-2.ensures.over

pub returns-in-Err-clause-counted : goal.returns-in-Err-clause-counted
returns-in-Err-clause-counted g c = rw c.judged.ensures.verdict (
    answers_with _ _ _ c.loop-count.answers (answers_behind c.in-Err.verdict) _ c.in-Err.verdict c.loop-count.invariant.counted c.in-Err.ensures.counted refl c.judged.ensures.answers)

pub returns-then-step-clause-counted : goal.returns-then-step-clause-counted
returns-then-step-clause-counted g c =
    answers_then _ _ _ _ c.missing_at.result c.over.result
    (took_more _ _ _ c.loop-count.answers c.in-Ok.step.answers _ c.loop-count.invariant.counted c.in-Ok.ensures.counted refl) c.over.ensures.counted

pub returns-clause-counted : goal.returns-clause-counted
returns-clause-counted g c = answers_then _ _ _ c.loop-count.answers TooLong c.over-2.result c.loop-count.invariant.counted c.over-2.ensures.counted
