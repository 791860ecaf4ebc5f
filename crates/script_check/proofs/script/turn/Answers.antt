use Rattle.script_check.proofs.Checking.{over_long, over_missing, over_unended, over_end, line_steps}
use Rattle.std.proofs.Common.{sym, ◌∙◌, true≢false}
use Rattle.script_check.proofs.script.turn.Goals as goal

pub returns-in-Long-clause-steps : goal.returns-in-Long-clause-steps
returns-in-Long-clause-steps g c = over_long c.args.number c.read_line.new.buf _ _ _ _ c.tell_last.result c.in-Long.ensures.taken c.tell_last.ensures.over c.tell_last.ensures.told

pub returns-in-End-clause-steps : goal.returns-in-End-clause-steps
returns-in-End-clause-steps g c = over_missing c.args.number c.read_line.new.buf _ _ _ _ c.tell_last-in-End.result c.in-End.ensures.taken c.tell_last-in-End.ensures.over c.tell_last-in-End.ensures.told

pub returns-then-is_ended-clause-steps : goal.returns-then-is_ended-clause-steps
returns-then-is_ended-clause-steps g c =
    over_end c.args.number c.read_line.new.buf c.in-Line.len c.in-Line.is_ended _ _ _ _ _ c.if-is_ended.true c.in-Line.ensures.taken (c.is_end.ensures.0 c.if-is_end.true) c.look_over.result c.look_over.ensures.looks

pub returns-then-is_end-clause-steps : goal.returns-then-is_end-clause-steps
returns-then-is_end-clause-steps g c =
    over_unended c.args.number c.read_line.new.buf _ _ _ _ c.tell_last-then-is_end.result c.in-Line.len c.in-Line.is_ended c.if-is_ended.false c.in-Line.ensures.taken (c.is_end.ensures.0 c.if-is_end.true)
    c.tell_last-then-is_end.ensures.over c.tell_last-then-is_end.ensures.told

pub returns-else-is_end-clause-steps : goal.returns-else-is_end-clause-steps
returns-else-is_end-clause-steps g c =
    line_steps c.args.number c.read_line.new.buf c.in-Line.len _ _ _ _ (λ is. true≢false (sym (c.is_end.ensures.1 is) ∙ c.if-is_end.false)) c.in-Line.is_ended c.in-Line.ensures.taken c.look_at_line.result c.look_at_line.ensures.looks
