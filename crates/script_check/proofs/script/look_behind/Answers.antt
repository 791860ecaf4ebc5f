use Rattle.script_check.proofs.Checking.{nothing_behind, line_behind, long_behind}
use Rattle.script_check.proofs.script.look_behind.Goals as goal

pub returns-in-End-clause-looks : goal.returns-in-End-clause-looks
returns-in-End-clause-looks g c = nothing_behind c.args.number c.read_line.new.buf _ _ _ c.in-End.ensures.taken

pub returns-in-Line-clause-looks : goal.returns-in-Line-clause-looks
returns-in-Line-clause-looks g c =
    line_behind c.args.number c.read_line.new.buf _ _ _ _ c.tell_behind.result c.tell_behind.ensures.wrong c.tell_behind.ensures.told c.in-Line.field-0 c.in-Line.field-1 c.in-Line.ensures.taken

pub returns-in-Long-clause-looks : goal.returns-in-Long-clause-looks
returns-in-Long-clause-looks g c =
    long_behind c.args.number c.read_line.new.buf _ _ _ _ c.tell_behind-in-Long.result c.tell_behind-in-Long.ensures.wrong c.tell_behind-in-Long.ensures.told c.in-Long.ensures.taken
