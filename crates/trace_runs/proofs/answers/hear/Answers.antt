use Rattle.std.proofs.Common.{arith}
use Rattle.trace_bench.specs.Seeing.{audit_of}
use Rattle.trace_runs.proofs.Counting.{line_taken}
use Rattle.trace_runs.proofs.ReadTurns.{line_then, cut_line, no_line, long_answer, unread_answer}
use Rattle.trace_runs.proofs.answers.hear.Goals as goal

pub returns-then-is_ended-clause-answers : goal.returns-then-is_ended-clause-answers
returns-then-is_ended-clause-answers g c =
    line_then c.args.number c.args.event.now c.args.rates.now (audit_of c.args.auditor.now) (audit_of c.judge_line.new.auditor) c.args.imprints.now.items c.judge_line.new.imprints.items _ _ _
    c.read_line.new.buf c.in-Line.len c.in-Line.is_ended c.judge_line.result c.if-is_ended.true c.in-Line.ensures.taken c.judge_line.ensures.answers

pub returns-else-is_ended-clause-answers : goal.returns-else-is_ended-clause-answers
returns-else-is_ended-clause-answers g c =
    cut_line c.args.number c.requires.inside c.args.event.now c.args.rates.now (audit_of c.args.auditor.now) c.requires.unforged (audit_of c.stopped.new.auditor) c.args.imprints.now.items c.stopped.new.imprints.items _ _
    c.read_line.new.buf c.stopped.result c.in-Line.len c.in-Line.is_ended c.if-is_ended.false c.in-Line.ensures.taken c.stopped.ensures.stops

pub returns-in-End-clause-answers : goal.returns-in-End-clause-answers
returns-in-End-clause-answers g c =
    no_line c.args.number c.requires.inside c.args.event.now c.args.rates.now (audit_of c.args.auditor.now) c.requires.unforged (audit_of c.stopped-in-End.new.auditor) c.args.imprints.now.items c.stopped-in-End.new.imprints.items _ _
    c.read_line.new.buf c.stopped-in-End.result c.in-End.ensures.taken c.stopped-in-End.ensures.stops

pub returns-in-Long-clause-answers : goal.returns-in-Long-clause-answers
returns-in-Long-clause-answers g c =
    long_answer c.args.number c.requires.inside c.args.event.now c.args.rates.now (audit_of c.args.auditor.now) c.requires.unforged (audit_of c.stopped-in-Long.new.auditor) c.args.imprints.now.items c.stopped-in-Long.new.imprints.items _ _
    c.read_line.new.buf c.stopped-in-Long.result c.in-Long.ensures.taken (λ n is. let short = c.stopped-in-Long.ensures.short n is in omega (arith, short, c.read_line.array_long)) c.stopped-in-Long.ensures.stops

pub returns-in-Fault-clause-answers : goal.returns-in-Fault-clause-answers
returns-in-Fault-clause-answers g c =
    unread_answer c.args.number c.requires.inside c.args.event.now c.args.rates.now (audit_of c.args.auditor.now) (audit_of c.args.auditor.now) c.args.imprints.now.items _ _ c.read_line.new.buf c.in-Fault.ensures.taken

pub returns-then-is_ended-clause-counted : goal.returns-then-is_ended-clause-counted
returns-then-is_ended-clause-counted g c =
    line_taken _ _ _ c.read_line.new.buf c.in-Line.len c.in-Line.is_ended c.judge_line.result c.if-is_ended.true c.in-Line.ensures.taken c.judge_line.ensures.counted

pub returns-else-is_ended-clause-counted : goal.returns-else-is_ended-clause-counted
returns-else-is_ended-clause-counted g c = λ end lawful. absurd (c.stopped.ensures.unlawful end lawful)

pub returns-in-End-clause-counted : goal.returns-in-End-clause-counted
returns-in-End-clause-counted g c = λ end lawful. absurd (c.stopped-in-End.ensures.unlawful end lawful)

pub returns-in-Long-clause-counted : goal.returns-in-Long-clause-counted
returns-in-Long-clause-counted g c = λ end lawful. absurd (c.stopped-in-Long.ensures.unlawful end lawful)
