use Rattle.std.proofs.Common.{◌++◌, ◌∙◌, refl}
use Rattle.trace_bench.specs.Seeing.{audit_of}
use Rattle.trace_runs.proofs.Counting.{took_none}
use Rattle.trace_runs.proofs.WasRead.{of_map, nothing}
use Rattle.trace_runs.proofs.ReadTurns.{unanswered}
use Rattle.trace_runs.proofs.Turning.{wrong, wants, goes_on, ends_here}
use Rattle.line_runs.specs.Lines.{ended}
use Rattle.trace_runs.proofs.answers.judge_line.Goals as goal

pub returns-in-Err-Wrong-clause-answers : goal.returns-in-Err-Wrong-clause-answers
returns-in-Err-Wrong-clause-answers g c = rw c.in-Err-Wrong.field-0-is (
    unanswered c.args.number c.args.event.now (ended c.args.line.now) c.args.rates.now (audit_of c.args.auditor.now) (audit_of c.judge.new.auditor) c.args.imprints.now.items c.args.imprints.now.items _ _
    (λ behind script line lines begins.
    wrong c.args.number c.requires.inside script line lines c.args.event.now begins (ended c.args.line.now ++ behind) c.args.rates.now (audit_of c.args.auditor.now) (audit_of c.judge.new.auditor)
    c.args.line.now behind (record { one = c.requires.one; is = refl }) c.in-Err-Wrong.due c.args.imprints.now.items c.requires.unforged (rw c.in-Err-Wrong.field-0-is at c.in-Err-Wrong.ensures.judged))
    )

pub returns-in-Err-Memory-clause-answers : goal.returns-in-Err-Memory-clause-answers
returns-in-Err-Memory-clause-answers g c =
    unanswered c.args.number c.args.event.now (ended c.args.line.now) c.args.rates.now (audit_of c.args.auditor.now) (audit_of c.judge.new.auditor) c.args.imprints.now.items c.args.imprints.now.items _ _
    (λ behind script line lines begins. wants c.args.number c.requires.inside script line lines c.args.event.now begins (ended c.args.line.now ++ behind) c.args.rates.now (audit_of c.args.auditor.now) (audit_of c.judge.new.auditor) c.args.imprints.now.items)

pub returns-in-Some-clause-answers : goal.returns-in-Some-clause-answers
returns-in-Some-clause-answers g c = record {
  report = c.over.ensures.over.0;
  goes_on = tt;
  so = of_map c.over.ensures.over.0.is_all _ _ (λ told over. λ script line lines begins.
      let behind = c.over.ensures.over.0.bytes ++ told in
      ends_here c.args.number c.requires.inside script line lines c.args.event.now begins (ended c.args.line.now ++ behind) c.args.rates.now (audit_of c.args.auditor.now) (audit_of c.judge.new.auditor)
      c.args.line.now behind (record { one = c.requires.one; is = refl })
      c.in-Ok.judged.taken c.requires.unforged (λ τ H texts history unforged sees. let w = c.in-Ok.ensures.judged τ H texts history unforged sees in (w.0, w.1, w.2)) c.one_reply.ensures.law c.due_mark-mark.result c.due_mark-mark.ensures c.given_in-given.result c.given_in-given.ensures c.over.result c.args.imprints.now.items c.in-Some.ensures.done.1 over) c.over.ensures.over.1;
}

pub returns-in-Ok-keep-clause-answers : goal.returns-in-Ok-keep-clause-answers
returns-in-Ok-keep-clause-answers g c = record {
  report = nothing _;
  goes_on = refl;
  so = λ behind script line lines begins.
      goes_on c.args.number c.requires.inside script line lines c.args.event.now begins (ended c.args.line.now ++ behind) c.args.rates.now (audit_of c.args.auditor.now) (audit_of c.judge.new.auditor)
      c.args.line.now behind (record { one = c.requires.one; is = refl })
      c.in-Ok.judged.taken c.requires.unforged (λ τ H texts history unforged sees. let w = c.in-Ok.ensures.judged τ H texts history unforged sees in (w.0, w.1, w.2)) c.one_reply.ensures.law c.due_mark-mark.result c.due_mark-mark.ensures c.given_in-given.result c.given_in-given.ensures c.args.imprints.now.items c.keep.new.imprints.items c.in-None.ensures.goes_on c.in-Ok-keep.ensures.ok;
}

pub returns-in-Err-clause-answers : goal.returns-in-Err-clause-answers
returns-in-Err-clause-answers g c =
    unanswered c.args.number c.args.event.now (ended c.args.line.now) c.args.rates.now (audit_of c.args.auditor.now) (audit_of c.judge.new.auditor) c.args.imprints.now.items c.keep.new.imprints.items _ _
    (λ behind script line lines begins.
    let w = wants c.args.number c.requires.inside script line lines c.args.event.now begins (ended c.args.line.now ++ behind) c.args.rates.now (audit_of c.args.auditor.now) (audit_of c.judge.new.auditor) c.args.imprints.now.items in
    (w.0, c.in-Err.ensures.err ∙ w.1))

pub returns-in-Some-clause-counted : goal.returns-in-Some-clause-counted
returns-in-Some-clause-counted g c = c.over.ensures.counted

pub returns-in-Ok-keep-clause-counted : goal.returns-in-Ok-keep-clause-counted
returns-in-Ok-keep-clause-counted g c = took_none _
