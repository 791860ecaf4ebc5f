use Rattle.trace_extensions.proofs.Lines.{no_line_read, no_long_read}
use Rattle.trace_extensions.proofs.run.over.Goals as goal

pub returns-in-Line-clause-only : goal.returns-in-Line-clause-only
returns-in-Line-clause-only g c = λ empty.
    let t = c.in-Line.ensures.taken in
    absurd (no_line_read _ _ c.in-Line.field-1 _ _ _ t.1 empty t.2.2)

pub returns-in-Long-clause-only : goal.returns-in-Long-clause-only
returns-in-Long-clause-only g c = λ empty.
    let t = c.in-Long.ensures.taken in
    absurd (no_long_read _ _ _ t.1 empty t.2.1)
