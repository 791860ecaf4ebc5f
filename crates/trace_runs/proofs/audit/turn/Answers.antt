use Rattle.std.proofs.Common.{take, refl}
use Rattle.trace_bench.specs.Seeing.{audit_of}
use Rattle.trace_runs.specs.declared.verdict.Ending.TheVariants as ends
use Rattle.trace_runs.proofs.Counting.{took_none, took_at_end}
use Rattle.trace_runs.proofs.ReadTurns.{script_fails, script_ends, script_long, script_bad, script_skips, event_goes, event_falls}
use Rattle.trace_runs.proofs.Turning.{line_of_event, bad_line}
use Rattle.trace_runs.proofs.WasRead.{first_line}
use Rattle.trace_runs.proofs.audit.turn.Goals as goal

pub returns-then-is_skipped-clause-turns : goal.returns-then-is_skipped-clause-turns
returns-then-is_skipped-clause-turns g c =
    script_skips c.args.number c.requires.inside c.args.rates.now (audit_of c.args.auditor.now) c.args.imprints.now.items _ _ c.read_line.new.buf (take c.in-Line.len c.read_line.new.buf) _ _
    (first_line _ _ c.read_line.new.buf c.in-Line.len c.in-Line.is_ended c.in-Line.ensures.taken) (c.if-is_skipped.ensures.0 refl) refl

pub returns-in-Fault-clause-turns : goal.returns-in-Fault-clause-turns
returns-in-Fault-clause-turns g c =
    script_fails c.args.number c.requires.inside c.args.rates.now (audit_of c.args.auditor.now) c.args.imprints.now.items _ _ c.read_line.new.buf _ c.in-Fault.ensures.taken

pub returns-in-End-clause-turns : goal.returns-in-End-clause-turns
returns-in-End-clause-turns g c =
    script_ends c.args.number c.requires.inside c.args.rates.now (audit_of c.args.auditor.now) c.args.imprints.now.items _ _ c.read_line.new.buf c.over.result _ _ c.over.ensures.over c.in-End.ensures.taken

pub returns-in-Long-clause-turns : goal.returns-in-Long-clause-turns
returns-in-Long-clause-turns g c =
    script_long c.args.number c.requires.inside c.args.rates.now (audit_of c.args.auditor.now) c.args.imprints.now.items _ _ c.read_line.new.buf c.over-in-Long.result _ _ c.over-in-Long.ensures.over c.in-Long.ensures.taken

pub returns-in-Err-clause-turns : goal.returns-in-Err-clause-turns
returns-in-Err-clause-turns g c =
    script_bad c.args.number c.requires.inside c.args.rates.now (audit_of c.args.auditor.now) c.args.imprints.now.items _ _ c.read_line.new.buf c.over-in-Err.result _ _ c.over-in-Err.ensures.over
    (take c.in-Line.len c.read_line.new.buf) _ (first_line _ _ c.read_line.new.buf c.in-Line.len c.in-Line.is_ended c.in-Line.ensures.taken)
    (bad_line c.read_event.result c.in-Err.field-0 c.is_skipped.result (take c.in-Line.len c.read_line.new.buf) c.read_event.ensures.none c.in-Err.is c.is_skipped.ensures c.if-is_skipped.false)

pub returns-in-Ok-answer-clause-turns : goal.returns-in-Ok-answer-clause-turns
returns-in-Ok-answer-clause-turns g c =
    event_goes c.args.number c.requires.inside c.args.rates.now (audit_of c.args.auditor.now) c.args.imprints.now.items _ _ c.read_line.new.buf
    (take c.in-Line.len c.read_line.new.buf) _ (first_line _ _ c.read_line.new.buf c.in-Line.len c.in-Line.is_ended c.in-Line.ensures.taken)
    c.in-Ok.event (line_of_event c.read_event.result c.in-Ok.event (take c.in-Line.len c.read_line.new.buf) c.read_event.ensures.found c.in-Ok.is)
    (audit_of c.answer.new.auditor) c.answer.new.imprints.items _ _ _ refl c.in-Ok-answer.ensures.answers

pub returns-in-Err-answer-clause-turns : goal.returns-in-Err-answer-clause-turns
returns-in-Err-answer-clause-turns g c =
    event_falls c.args.number c.requires.inside c.args.rates.now (audit_of c.args.auditor.now) c.args.imprints.now.items _ _ c.read_line.new.buf
    (take c.in-Line.len c.read_line.new.buf) _ (first_line _ _ c.read_line.new.buf c.in-Line.len c.in-Line.is_ended c.in-Line.ensures.taken)
    c.in-Ok.event (line_of_event c.read_event.result c.in-Ok.event (take c.in-Line.len c.read_line.new.buf) c.read_event.ensures.found c.in-Ok.is)
    (audit_of c.answer.new.auditor) c.answer.new.imprints.items _ _ c.in-Err-answer.verdict c.in-Err-answer.ensures.answers

pub returns-then-is_skipped-clause-counted : goal.returns-then-is_skipped-clause-counted
returns-then-is_skipped-clause-counted g c = took_none _

pub returns-in-End-clause-counted : goal.returns-in-End-clause-counted
returns-in-End-clause-counted g c = took_at_end (ends.Script c.args.number) 0 _ _ c.over.result refl c.over.ensures.counted

pub returns-in-Long-clause-counted : goal.returns-in-Long-clause-counted
returns-in-Long-clause-counted g c = took_at_end (ends.Script c.args.number) 0 _ _ c.over-in-Long.result refl c.over-in-Long.ensures.counted

pub returns-in-Err-clause-counted : goal.returns-in-Err-clause-counted
returns-in-Err-clause-counted g c = took_at_end (ends.Script c.args.number) 0 _ _ c.over-in-Err.result refl c.over-in-Err.ensures.counted

pub returns-in-Ok-answer-clause-counted : goal.returns-in-Ok-answer-clause-counted
returns-in-Ok-answer-clause-counted g c = c.in-Ok-answer.ensures.counted

pub returns-in-Err-answer-clause-counted : goal.returns-in-Err-answer-clause-counted
returns-in-Err-answer-clause-counted g c = took_at_end ends.Done 1 _ _ c.in-Err-answer.verdict refl c.in-Err-answer.ensures.counted
